use Rattle.std.proofs.Common.{◌≡◌, None, drop, false, map}
use Rattle.lab_step_texts.specs.Extras.{wrong_from}
use Rattle.lab_step_texts.proofs.extras.wrong_in.Given as goal

abbrev pub invariant-loop-line : goal.invariant-loop-line
invariant-loop-line l =
    wrong_from l.what l.was (map (λ line. line.now) (drop l.line-index l.lines)) ≡ wrong_from None false (map (λ line. line.now) l.lines)
