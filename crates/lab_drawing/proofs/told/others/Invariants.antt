use Rattle.std.proofs.Common.{◌≡◌, ◌++◌, drop}
use Rattle.lab_drawing.specs.Standings.{others}
use Rattle.lab_drawing.proofs.told.others.Given as goal

abbrev pub invariant-loop-standing : goal.invariant-loop-standing
invariant-loop-standing l = l.kept.items ++ others l.lane (drop l.standing-index l.standings) ≡ others l.lane l.standings
