use Rattle.std.proofs.Common.{◌≡◌, ◌≤◌}
use Rattle.lab_moments.specs.Standings.{pending_below}
use Rattle.lab_moments.proofs.pending.pending_count.Given as goal

abbrev pub invariant-loop-line : goal.invariant-loop-line
invariant-loop-line g l = record {
  counted : l.count ≡ pending_below l.kernel.history.state l.stage l.line;
  few : l.count ≤ l.line;
}
