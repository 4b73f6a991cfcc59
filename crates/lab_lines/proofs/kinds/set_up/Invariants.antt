use Rattle.std.proofs.Common.{◌≡◌, ◌++◌, drop, map, string_bytes}
use Rattle.lab_lines.specs.Kinds as kinds
use Rattle.lab_lines.proofs.kinds.set_up.Given as goal

abbrev pub invariant-loop-line : goal.invariant-loop-line
invariant-loop-line l =
    string_bytes l.text ++ kinds.set_up l.left (map (λ line. line.now) (drop l.line-index l.all)) ≡ kinds.set_up l.count (map (λ line. line.now) l.all)
