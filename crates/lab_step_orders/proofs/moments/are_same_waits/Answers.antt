use Rattle.std.proofs.Common.{rules, refl, sym, ◌∙◌}
use Rattle.lab_step_orders.proofs.Alike.{same_list, same_wait}
use Rattle.lab_step_orders.proofs.moments.are_same_waits.Goals as goal

pub returns : goal.returns
returns c = λ e.
    same_list _ (same_wait _ (λ x y. search rules) (λ y. refl) refl (λ x. refl) (λ x. refl) refl (λ y. refl)) c.args.one.now c.args.other.now (sym c.eq.ensures ∙ e)
