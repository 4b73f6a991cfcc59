use Rattle.std.proofs.Common.{◌≡◌, ◌++◌, ◌==◌, drop, map, string_bytes, true}
use Rattle.lab_json.specs.Texts.{json_list}
use Rattle.lab_json.specs.Parts.{part_json}
use Rattle.lab_json.proofs.parts.put_each.Given as goal

abbrev pub invariant-loop-i : goal.invariant-loop-i
invariant-loop-i g l =
    string_bytes l.json ++ json_list (l.i == 0) (map (part_json l.kernel.history.state l.part) (drop l.i l.numbers))
    ≡ string_bytes l.initial.json ++ json_list true (map (part_json l.kernel.history.state l.part) l.numbers)
