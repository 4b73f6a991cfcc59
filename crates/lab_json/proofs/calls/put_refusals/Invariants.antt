use Rattle.std.proofs.Common.{◌≡◌, ◌++◌, ◌==◌, drop, map, string_bytes, true}
use Rattle.lab_json.specs.Calls.{refusal_json}
use Rattle.lab_json.specs.Texts.{json_list}
use Rattle.lab_json.proofs.calls.put_refusals.Given as goal

abbrev pub invariant-loop-i : goal.invariant-loop-i
invariant-loop-i l =
    string_bytes l.json ++ json_list (l.i == 0) (map refusal_json (drop l.i l.some))
    ≡ string_bytes l.initial.json ++ json_list true (map refusal_json l.some)
