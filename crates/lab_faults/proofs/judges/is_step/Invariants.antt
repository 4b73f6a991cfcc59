use Rattle.std.proofs.Common.{◌≡◌, ◌++◌, drop, flat_map}
use Rattle.lab_faults.specs.Steps.{item_line}
use Rattle.lab_faults.proofs.judges.is_step.Given as goal

abbrev pub invariant-loop-item : goal.invariant-loop-item
invariant-loop-item l = l.step.items ++ flat_map (item_line l.text) (drop l.item-index l.items) ≡ l.initial.step.items ++ flat_map (item_line l.text) l.items
