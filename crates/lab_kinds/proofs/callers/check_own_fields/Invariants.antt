use Rattle.std.proofs.Common.{◌≡◌, ◌++◌, drop, flat_map, map, true}
use Rattle.lab_faults.specs.Faults.{are_of_steps}
use Rattle.lab_faults.specs.Told.{fault_told}
use Rattle.lab_kinds.specs.Callers.{own_field_faults}
use Rattle.lab_kinds.proofs.callers.check_own_fields.Given as goal

abbrev pub invariant-loop-item : goal.invariant-loop-item
invariant-loop-item l = record {
  text : l.finding.text ≡ l.initial.finding.text;
  told : map fault_told l.finding.found.items ++ flat_map (own_field_faults l.initial.finding.text.now l.number l.place (map (λ key. key.now) l.keys)) (drop l.item-index l.items) ≡ map fault_told l.initial.finding.found.items ++ flat_map (own_field_faults l.initial.finding.text.now l.number l.place (map (λ key. key.now) l.keys)) l.items;
  steps : are_of_steps l.initial.finding.found.items ≡ true → are_of_steps l.finding.found.items ≡ true;
}
