use Rattle.std.proofs.Common.{◌≡◌, ◌++◌, drop, map}
use Rattle.std.specs.Prelude.{string_bytes}
use Rattle.lab_scenario_orders.specs.Json.{lines_from}
use Rattle.lab_scenario_orders.proofs.json.put_lines.Given as goal

abbrev pub invariant-loop-place : goal.invariant-loop-place
invariant-loop-place l =
    string_bytes l.text ++ lines_from l.place (map (λ line. line.now) (drop l.place l.all)) ≡ string_bytes l.initial.text ++ lines_from 0 (map (λ line. line.now) l.all)
