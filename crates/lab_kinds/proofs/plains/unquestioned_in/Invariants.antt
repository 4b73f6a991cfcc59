use Rattle.std.proofs.Common.{◌≡◌, ◌++◌, drop, false, map}
use Rattle.std.specs.Prelude.{string_bytes}
use Rattle.lab_kinds.specs.Plains.{unquestioned_from}
use Rattle.lab_kinds.proofs.plains.unquestioned_in.Given as goal

abbrev pub invariant-loop-line : goal.invariant-loop-line
invariant-loop-line l =
    string_bytes l.text ++ unquestioned_from l.was (map (λ line. line.now) (drop l.line-index l.lines)) ≡ unquestioned_from false (map (λ line. line.now) l.lines)
