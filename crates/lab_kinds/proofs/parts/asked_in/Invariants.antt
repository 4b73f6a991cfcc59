use Rattle.std.proofs.Common.{◌≡◌, ◌++◌, drop, false, map}
use Rattle.std.specs.Prelude.{string_bytes}
use Rattle.lab_kinds.specs.Orders.{asked_from}
use Rattle.lab_kinds.proofs.parts.asked_in.Given as goal

abbrev pub invariant-loop-line : goal.invariant-loop-line
invariant-loop-line l = string_bytes l.text ++ asked_from l.was (map (λ line. line.now) (drop l.line-index l.lines)) ≡ asked_from false (map (λ line. line.now) l.lines)
