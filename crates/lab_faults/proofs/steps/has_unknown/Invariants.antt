use Rattle.std.proofs.Common.{◌≡◌, drop, map}
use Rattle.std.specs.List.{list_any}
use Rattle.lab_faults.specs.Steps.{is_unknown}
use Rattle.lab_faults.proofs.steps.has_unknown.Given as goal

abbrev pub invariant-loop-item : goal.invariant-loop-item
invariant-loop-item l = list_any (is_unknown l.text (map (λ key. key.now) l.keys)) (drop l.item-index l.items) ≡ list_any (is_unknown l.text (map (λ key. key.now) l.keys)) l.items
