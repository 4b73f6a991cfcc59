use Rattle.std.proofs.Common.{◌≡◌, ◌++◌, drop, false, map}
use Rattle.std.specs.Prelude.{string_bytes}
use Rattle.lab_kinds.specs.Orders.{scenario_from}
use Rattle.lab_kinds.proofs.parts.scenario_in.Given as goal

abbrev pub invariant-loop-line : goal.invariant-loop-line
invariant-loop-line l = string_bytes l.text ++ scenario_from l.was (map (λ line. line.now) (drop l.line-index l.lines)) ≡ scenario_from false (map (λ line. line.now) l.lines)
