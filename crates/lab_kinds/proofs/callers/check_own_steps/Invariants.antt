use Rattle.std.proofs.Common.{◌≡◌, ◌++◌, length, map, true}
use Rattle.lab_faults.specs.Faults.{are_of_steps}
use Rattle.lab_faults.specs.Told.{fault_told}
use Rattle.lab_kinds.specs.Callers.{all_callers_step_faults}
use Rattle.lab_kinds.proofs.callers.check_own_steps.Given as goal

abbrev pub decreases-loop-rest : goal.decreases-loop-rest
decreases-loop-rest l = length l.rest

abbrev pub invariant-loop-rest : goal.invariant-loop-rest
invariant-loop-rest l = record {
  text : l.finding.text ≡ l.initial.finding.text;
  told : map fault_told l.finding.found.items ++ all_callers_step_faults l.initial.finding.text.now l.rest ≡ map fault_told l.initial.finding.found.items ++ all_callers_step_faults l.initial.finding.text.now l.items;
  steps : are_of_steps l.initial.finding.found.items ≡ true → are_of_steps l.finding.found.items ≡ true;
}
