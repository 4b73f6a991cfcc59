use Rattle.std.proofs.Common.{map}
use Rattle.lab_reports.specs.Differences.{told_apart}
use Rattle.lab_reports.proofs.DifferenceLaws.{AreNoted}
use Rattle.lab_reports.proofs.differences.noted.Given as goal

abbrev pub invariant-loop-i : goal.invariant-loop-i
invariant-loop-i l = AreNoted l.most (map (λ line. line.now) l.old) (map (λ line. line.now) l.new) l.i (map told_apart l.found.items)
