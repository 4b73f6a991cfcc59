use Rattle.std.proofs.Common.{◌≡◌, ◌++◌, ◌-◌, map, option_map, take}
use Rattle.lab_reports.specs.Calls.{pairs_of, pieces, rest_pairs}
use Rattle.lab_reports.proofs.calls.pairs_in.Given as goal

abbrev pub invariant-loop : goal.invariant-loop
invariant-loop l =
    map (λ p. (p.0.now, p.1.now)) l.pairs.items ++ take (8 - l.counter) (rest_pairs (option_map (λ r. r.now) l.left)) ≡ take 8 (pairs_of (pieces l.text))
