use Rattle.std.proofs.Common.{◌≡◌, ◌+◌, ◌==◌, drop}
use Rattle.std.specs.List.{prefix_len}
use Rattle.lab_faults.specs.Steps.{number_of}
use Rattle.lab_faults.proofs.runs.in_front.Given as goal

abbrev pub invariant-loop-index : goal.invariant-loop-index
invariant-loop-index l = l.index + prefix_len (λ item. number_of item.section == l.number) (drop l.index l.items) ≡ prefix_len (λ item. number_of item.section == l.number) l.items
