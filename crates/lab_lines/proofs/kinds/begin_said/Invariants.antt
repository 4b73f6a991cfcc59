use Rattle.std.proofs.Common.{◌≡◌, drop, map}
use Rattle.lab_lines.specs.Kinds as kinds
use Rattle.lab_lines.proofs.kinds.begin_said.Given as goal

abbrev pub invariant-loop-line : goal.invariant-loop-line
invariant-loop-line l = kinds.begin_said (map (λ line. line.now) (drop l.line-index l.all)) ≡ kinds.begin_said (map (λ line. line.now) l.all)
