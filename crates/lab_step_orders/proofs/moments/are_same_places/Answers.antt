use Rattle.std.proofs.Common.{rules, refl, sym, ◌∙◌}
use Rattle.lab_step_orders.proofs.Alike.{same_list, same_place}
use Rattle.lab_step_orders.proofs.moments.are_same_places.Goals as goal

pub returns : goal.returns
returns c = λ e.
    same_list _ (same_place _ (λ x y m n. search rules) (λ x y. search rules) (λ x y. search rules) (λ y n. refl) (λ y. refl) (λ y. refl)
    (λ x m. refl) (λ x y m. refl) (λ x y m. refl) (λ x. refl) (λ x y n. refl) (λ x y. refl) (λ x. refl) (λ x y n. refl) (λ x y. refl))
    c.args.one.now c.args.other.now (sym c.eq.ensures ∙ e)
