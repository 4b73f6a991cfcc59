use Rattle.std.proofs.Common.{◌≡◌, [], drop, map}
use Rattle.lab_step_texts.specs.Extras.{ways_from}
use Rattle.lab_step_texts.proofs.extras.ways_in.Given as goal

abbrev pub invariant-loop-line : goal.invariant-loop-line
invariant-loop-line l = ways_from l.ways.items (map (λ line. line.now) (drop l.line-index l.lines)) ≡ ways_from [] (map (λ line. line.now) l.lines)
