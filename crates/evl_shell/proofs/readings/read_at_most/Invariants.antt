use Rattle.std.proofs.Common.{◌-◌, ◌≤◌, length}
use Rattle.std.specs.Io.KnownBytes.{Consumes}
use Rattle.evl_shell.proofs.readings.read_at_most.Given as goal

abbrev pub invariant-reading : goal.invariant-reading
invariant-reading g l = record {
  within : length l.text.items ≤ l.initial.most;
  read : Consumes (g.R.Read.remaining l.initial.input) (g.R.Read.remaining l.input) l.text.items;
}

abbrev pub decreases-reading : goal.decreases-reading
decreases-reading g l = l.initial.most - length l.text.items
