use Rattle.std.proofs.Common.{◌≡◌, ◌++◌, drop, flat_map, map, string_bytes}
use Rattle.lab_json.specs.Warned.{warned_json}
use Rattle.lab_json.proofs.warned.write_each.Given as goal

abbrev pub invariant-loop-line : goal.invariant-loop-line
invariant-loop-line l =
    string_bytes l.json ++ flat_map (warned_json l.file) (map (λ line. line.now) (drop l.line-index l.all))
    ≡ string_bytes l.initial.json ++ flat_map (warned_json l.file) (map (λ line. line.now) l.all)
