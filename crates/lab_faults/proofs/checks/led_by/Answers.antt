use Rattle.std.proofs.Common.{◌∙◌, inl, inr, refl, sym}
use Rattle.lab_faults.proofs.CheckLaws.{first_same}
use Rattle.lab_faults.proofs.checks.led_by.Goals as goal

pub returns-then-begins_with-clause-led : goal.returns-then-begins_with-clause-led
returns-then-begins_with-clause-led c = inl (first_same c.args.found.items ∙ (rw c.as_slice.ensures.value at (c.begins_with.ensures.yes c.if-begins_with.true)), refl)

pub returns-clause-led : goal.returns-clause-led
returns-clause-led c =
    inr (λ e. (rw c.as_slice.ensures.value at (c.begins_with.ensures.no c.if-begins_with.false)) (sym (first_same c.args.found.items) ∙ e), c.in_ok-all.ensures.told c.in_ok-words.ensures)
