use Rattle.std.proofs.Common.{◌≡◌, ◌+◌, None, drop, false, map}
use Rattle.lab_step_texts.specs.Extras.{strange_from}
use Rattle.lab_step_texts.proofs.extras.strange_in.Given as goal

abbrev pub invariant-loop-i : goal.invariant-loop-i
invariant-loop-i l = strange_from (l.i + 1) l.what l.was (map (λ line. line.now) (drop l.i l.lines)) ≡ strange_from 1 None false (map (λ line. line.now) l.lines)
