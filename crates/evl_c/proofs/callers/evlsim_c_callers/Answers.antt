use Rattle.std.proofs.Common.{◌∙◌, ℕ, List, Option, ap, inl, map, refl, string_bytes, subst}
use Rattle.evl_c.specs.Forms.{handler_of}
use Rattle.evl_c.specs.Callers.{PlaysCallers, story_in}
use Rattle.evl_c.specs.Windows.{window}
use Rattle.evl_c.proofs.TextLaws.{played_is}
use Rattle.evl_c.proofs.callers.evlsim_c_callers.Goals as goal

pub returns-clause-told : goal.returns-clause-told
returns-clause-told c plans =
    let told = c.in-Ok.told in
    inl (
      story_in told,
      subst (λ (limit : Option ℕ). PlaysCallers (map handler_of c.args.plans.now) limit c.args.text.now (story_in told)) c.limit_given.ensures c.in-Ok.ensures,
      c.put_window.ensures ∙ ap (λ (text : List ℕ). window text c.args.start c.args.out.now) c.as_bytes-bytes.ensures.value,
      played_is c.as_bytes-bytes.result.now (string_bytes told.text) told.step c.as_bytes-bytes.ensures.value,
      refl,
    )
