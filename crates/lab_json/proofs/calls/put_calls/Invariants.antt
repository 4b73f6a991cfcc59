use Rattle.std.proofs.Common.{◌≡◌, ◌++◌, drop, flat_map, string_bytes}
use Rattle.lab_json.specs.Calls.{call_json}
use Rattle.lab_json.proofs.calls.put_calls.Given as goal

abbrev pub invariant-loop-word : goal.invariant-loop-word
invariant-loop-word l =
    string_bytes l.json ++ flat_map call_json (drop l.word-index l.some) ≡ string_bytes l.initial.json ++ flat_map call_json l.some
