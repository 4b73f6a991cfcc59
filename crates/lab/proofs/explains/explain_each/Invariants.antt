use Rattle.std.proofs.Common.{◌≡◌, ◌++◌, List, ℕ, map, string_bytes, take}
use Rattle.lab.specs.Explains.{ExplainsEach}
use Rattle.lab.proofs.explains.explain_each.Given as goal

abbrev pub invariant-loop-name : goal.invariant-loop-name
invariant-loop-name g l =
    (said : List ℕ) × ExplainsEach l.takes (map (λ name. name.now) (take l.name-index l.names)) said × (string_bytes l.told ≡ string_bytes l.initial.told ++ said)
