use Rattle.std.proofs.Common.{◌≡◌, ◌++◌, drop, flat_map, map, true}
use Rattle.lab_faults.specs.Faults.{are_of_steps, is_of_step}
use Rattle.lab_faults.specs.Told.{fault_told}
use Rattle.lab_kinds.specs.Tables.{missing_faults}
use Rattle.lab_kinds.proofs.tables.check_all_missing.Given as goal

abbrev pub invariant-loop-key : goal.invariant-loop-key
invariant-loop-key l = record {
  text : l.finding.text ≡ l.initial.finding.text;
  told : map fault_told l.finding.found.items ++ flat_map (missing_faults l.initial.finding.text.now l.fault l.place l.items l.at) (map (λ key. key.now) (drop l.key-index l.keys)) ≡ map fault_told l.initial.finding.found.items ++ flat_map (missing_faults l.initial.finding.text.now l.fault l.place l.items l.at) (map (λ key. key.now) l.keys);
  steps : is_of_step l.fault ≡ true → are_of_steps l.initial.finding.found.items ≡ true → are_of_steps l.finding.found.items ≡ true;
}
