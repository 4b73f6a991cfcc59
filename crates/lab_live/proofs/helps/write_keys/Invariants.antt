use Rattle.std.proofs.Common.{◌≡◌, ◌++◌, drop, flat_map, map, string_bytes}
use Rattle.lab_live.specs.Helps.{key_text}
use Rattle.lab_live.proofs.helps.write_keys.Given as goal

abbrev pub invariant-loop-key : goal.invariant-loop-key
invariant-loop-key l =
    string_bytes l.told ++ flat_map key_text (map (λ key. key.now) (drop l.key-index l.keys)) ≡ string_bytes l.initial.told ++ flat_map key_text (map (λ key. key.now) l.keys)
