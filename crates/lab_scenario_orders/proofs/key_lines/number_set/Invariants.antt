use Rattle.std.proofs.Common.{◌≡◌, ◌+◌, drop, false, map, option_map}
use Rattle.lab_scenario_orders.specs.KeyLines.{number_set}
use Rattle.lab_scenario_orders.proofs.key_lines.number_set.Given as goal

abbrev pub invariant-loop-i : goal.invariant-loop-i
invariant-loop-i l =
    let known = map (λ word. word.now) l.known in
    let named = option_map (λ key. key.now) l.named in
    number_set known named l.was (l.i + 1) (map (λ line. line.now) (drop l.i l.lines)) ≡ number_set known named false 1 (map (λ line. line.now) l.lines)
