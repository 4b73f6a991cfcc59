use Rattle.std.proofs.Common.{◌≡◌, ◌++◌, drop, false, map}
use Rattle.std.specs.Prelude.{string_bytes}
use Rattle.lab_kinds.specs.Plains.{plain_from}
use Rattle.lab_kinds.proofs.plains.plain_in.Given as goal

abbrev pub invariant-loop-line : goal.invariant-loop-line
invariant-loop-line l =
    string_bytes l.text ++ plain_from l.asked l.own (map (λ line. line.now) (drop l.line-index l.lines)) ≡ plain_from false false (map (λ line. line.now) l.lines)
