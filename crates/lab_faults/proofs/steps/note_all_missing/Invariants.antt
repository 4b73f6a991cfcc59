use Rattle.std.proofs.Common.{◌≡◌, ◌++◌, drop, map, true, flat_map}
use Rattle.lab_faults.specs.Faults.{are_of_steps}
use Rattle.lab_faults.specs.Steps.{missing_faults}
use Rattle.lab_faults.specs.Told.{fault_told}
use Rattle.lab_faults.proofs.steps.note_all_missing.Given as goal

abbrev pub invariant-loop-key : goal.invariant-loop-key
invariant-loop-key l = record {
  text : l.finding.text ≡ l.initial.finding.text;
  told : map fault_told l.finding.found.items ++ flat_map (missing_faults l.initial.finding.text.now l.number l.items l.at l.word) (map (λ key. key.now) (drop l.key-index l.keys)) ≡ map fault_told l.initial.finding.found.items ++ flat_map (missing_faults l.initial.finding.text.now l.number l.items l.at l.word) (map (λ key. key.now) l.keys);
  steps : are_of_steps l.initial.finding.found.items ≡ true → are_of_steps l.finding.found.items ≡ true;
}
