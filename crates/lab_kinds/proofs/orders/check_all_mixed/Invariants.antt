use Rattle.std.proofs.Common.{◌≡◌, ◌++◌, drop, false, map}
use Rattle.lab_faults.specs.Told.{fault_told}
use Rattle.lab_kinds.specs.Orders.{mixed_faults}
use Rattle.lab_kinds.proofs.orders.check_all_mixed.Given as goal

abbrev pub invariant-loop-heading : goal.invariant-loop-heading
invariant-loop-heading l = record {
  text : l.finding.text ≡ l.initial.finding.text;
  told : map fault_told l.finding.found.items ++ mixed_faults l.initial.finding.text.now l.seen (drop l.heading-index l.headings) ≡ map fault_told l.initial.finding.found.items ++ mixed_faults l.initial.finding.text.now false l.headings;
}
