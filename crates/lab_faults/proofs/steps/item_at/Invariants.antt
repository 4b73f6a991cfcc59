use Rattle.std.proofs.Common.{◌≡◌, drop}
use Rattle.lab_faults.specs.Steps as steps
use Rattle.lab_faults.proofs.steps.item_at.Given as goal

abbrev pub invariant-loop-item : goal.invariant-loop-item
invariant-loop-item l = steps.item_at l.text (drop l.item-index l.items) l.key ≡ steps.item_at l.text l.items l.key
