use Rattle.std.proofs.Common.{◌≡◌, ◌++◌, ◌==◌, drop, map, string_bytes, true}
use Rattle.lab_json.specs.Calls.{key_json, key_told}
use Rattle.lab_json.specs.Texts.{json_list}
use Rattle.lab_json.proofs.calls.put_keys.Given as goal

abbrev pub invariant-loop-i : goal.invariant-loop-i
invariant-loop-i l =
    string_bytes l.json ++ json_list (l.i == 0) (map key_json (map key_told (drop l.i l.keys)))
    ≡ string_bytes l.initial.json ++ json_list true (map key_json (map key_told l.keys))
