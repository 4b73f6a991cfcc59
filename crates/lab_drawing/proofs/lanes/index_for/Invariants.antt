use Rattle.std.proofs.Common.{◌≡◌, ◌+◌, drop}
use Rattle.std.specs.List.{prefix_len}
use Rattle.lab_drawing.specs.Lanes.{is_above}
use Rattle.lab_drawing.proofs.lanes.index_for.Given as goal

abbrev pub invariant-loop-i : goal.invariant-loop-i
invariant-loop-i l = l.i + prefix_len (λ other. is_above other l.lane) (drop l.i l.lanes) ≡ prefix_len (λ other. is_above other l.lane) l.lanes
