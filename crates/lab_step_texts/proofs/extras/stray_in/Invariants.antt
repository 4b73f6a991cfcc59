use Rattle.std.proofs.Common.{◌≡◌, ◌+◌, drop, false, map}
use Rattle.lab_step_texts.specs.Extras.{stray_from}
use Rattle.lab_step_texts.proofs.extras.stray_in.Given as goal

abbrev pub invariant-loop-i : goal.invariant-loop-i
invariant-loop-i l = stray_from (l.i + 1) l.going (map (λ line. line.now) (drop l.i l.lines)) ≡ stray_from 1 false (map (λ line. line.now) l.lines)
