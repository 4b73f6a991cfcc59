use Rattle.std.proofs.Common.{◌≡◌, ◌++◌, drop, flat_map, map}
use Rattle.lab_faults.specs.Told.{fault_told}
use Rattle.lab_kinds.specs.Banks.{bank_heading_faults}
use Rattle.lab_kinds.proofs.banks.check_headings.Given as goal

abbrev pub invariant-loop-heading : goal.invariant-loop-heading
invariant-loop-heading l = record {
  text : l.finding.text ≡ l.initial.finding.text;
  told : map fault_told l.finding.found.items ++ flat_map (bank_heading_faults l.initial.finding.text.now) (drop l.heading-index l.headings) ≡ map fault_told l.initial.finding.found.items ++ flat_map (bank_heading_faults l.initial.finding.text.now) l.headings;
}
