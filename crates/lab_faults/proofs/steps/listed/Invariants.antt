use Rattle.std.proofs.Common.{◌≡◌, ◌++◌, codes, drop, flat_map, map, string_bytes}
use Rattle.lab_faults.proofs.steps.listed.Given as goal

abbrev pub invariant-loop-key : goal.invariant-loop-key
invariant-loop-key l =
    string_bytes l.text ++ flat_map (λ name. codes ", " ++ name) (map (λ key. key.now) (drop l.key-index l.rest))
    ≡ string_bytes l.initial.text ++ flat_map (λ name. codes ", " ++ name) (map (λ key. key.now) l.rest)
