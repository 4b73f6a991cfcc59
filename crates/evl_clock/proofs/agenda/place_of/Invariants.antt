use Rattle.std.proofs.Common.{◌-◌, ◌≤◌, length}
use Rattle.evl_clock.specs.Agenda.{place_of}
use Rattle.evl_clock.proofs.agenda.place_of.Given as goal

abbrev pub invariant-loop-low : goal.invariant-loop-low
invariant-loop-low l = record {
  below : l.low ≤ place_of l.entry l.entries;
  above : place_of l.entry l.entries ≤ l.high;
  inside : l.high ≤ length l.entries;
}

abbrev pub decreases-loop-low : goal.decreases-loop-low
decreases-loop-low l = l.high - l.low
