use Rattle.std.proofs.Common.{◌≡◌, ◌++◌, ◌==◌, drop, map, string_bytes, true}
use Rattle.lab_reports.specs.Json.{json_list, pair_json}
use Rattle.lab_reports.proofs.json.put_pairs.Given as goal

abbrev pub invariant-loop-i : goal.invariant-loop-i
invariant-loop-i l =
    string_bytes l.json ++ json_list (l.i == 0) (map pair_json (map (λ p. (p.0.now, p.1.now)) (drop l.i l.pairs)))
    ≡ string_bytes l.initial.json ++ json_list true (map pair_json (map (λ p. (p.0.now, p.1.now)) l.pairs))
