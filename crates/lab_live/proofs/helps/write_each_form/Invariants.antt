use Rattle.std.proofs.Common.{◌≡◌, ◌++◌, drop, flat_map, map, string_bytes}
use Rattle.lab_live.specs.Helps.{form_named}
use Rattle.lab_live.proofs.helps.write_each_form.Given as goal

abbrev pub invariant-loop-word : goal.invariant-loop-word
invariant-loop-word l =
    string_bytes l.told ++ flat_map form_named (map (λ word. word.now) (drop l.word-index l.words)) ≡ string_bytes l.initial.told ++ flat_map form_named (map (λ word. word.now) l.words)
