use Rattle.std.proofs.Common.{◌≡◌, ◌+◌, drop, map}
use Rattle.lab_kinds.specs.Plains.{open_from}
use Rattle.lab_kinds.proofs.plains.open_line.Given as goal

abbrev pub invariant-loop-i : goal.invariant-loop-i
invariant-loop-i l = open_from (l.i + 1) (map (λ line. line.now) (drop l.i l.lines)) ≡ open_from 1 (map (λ line. line.now) l.lines)
