use Rattle.std.proofs.Common.{◌∙◌, ℕ, List, ap, inl, map, refl, subst}
use Rattle.evl_c.specs.Forms.{handler_of}
use Rattle.evl_c.specs.Orders.{TellsGiven, answer_in}
use Rattle.evl_c.specs.Windows.{window}
use Rattle.evl_c.proofs.orders.evlsim_c_orders.Goals as goal

pub returns-clause-told : goal.returns-clause-told
returns-clause-told c plans =
    let told = c.in-Ok.told in
    inl (
      answer_in told,
      subst (λ (most : ℕ). TellsGiven (map handler_of c.args.plans.now) most c.args.outcome c.args.text.now (answer_in told)) c.most_given.ensures c.in-Ok.ensures,
      c.put_window.ensures ∙ ap (λ (text : List ℕ). window text c.args.start c.args.out.now) c.as_bytes.ensures.value,
      refl,
      refl,
    )
