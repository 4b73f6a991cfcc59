use Rattle.std.proofs.Common.{◌≡◌, ◌++◌, ◌==◌, decimal, drop, map, string_bytes, true}
use Rattle.lab_json.specs.Texts.{json_list}
use Rattle.lab_json.proofs.lists.put_threads.Given as goal

abbrev pub invariant-loop-i : goal.invariant-loop-i
invariant-loop-i l =
    string_bytes l.json ++ json_list (l.i == 0) (map decimal (map (λ t. t.0) (drop l.i l.threads)))
    ≡ string_bytes l.initial.json ++ json_list true (map decimal (map (λ t. t.0) l.threads))
