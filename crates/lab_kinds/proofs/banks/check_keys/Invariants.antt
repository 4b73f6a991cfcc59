use Rattle.std.proofs.Common.{◌≡◌, ◌++◌, drop, map}
use Rattle.lab_faults.specs.Told.{fault_told}
use Rattle.lab_kinds.specs.Banks.{bank_keys_faults}
use Rattle.lab_kinds.proofs.banks.check_keys.Given as goal

abbrev pub invariant-loop-index : goal.invariant-loop-index
invariant-loop-index l = record {
  text : l.finding.text ≡ l.initial.finding.text;
  told : map fault_told l.finding.found.items ++ bank_keys_faults l.initial.finding.text.now (drop l.index l.rows) (drop l.index l.items) ≡ map fault_told l.initial.finding.found.items ++ bank_keys_faults l.initial.finding.text.now l.rows l.items;
}
