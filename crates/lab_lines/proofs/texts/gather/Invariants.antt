use Rattle.std.proofs.Common.{◌≡◌, ◌+◌, drop, map}
use Rattle.lab_lines.specs.Texts.{gathered, gathered_in, nothing_said}
use Rattle.lab_lines.proofs.texts.gather.Given as goal

abbrev pub invariant-loop-at : goal.invariant-loop-at
invariant-loop-at l =
    gathered (l.at + 1) (gathered_in l.gathering) (map (λ line. line.now) (drop l.at l.lines)) ≡ gathered 1 nothing_said (map (λ line. line.now) l.lines)
