use Rattle.std.proofs.Common.{flat_map, option_map, string_bytes, take}
use Rattle.lab_drawing.specs.Shapes.{AddsSigns, lane_signs}
use Rattle.lab_drawing.proofs.strips.put_moment.Given as goal

abbrev pub invariant-loop-standing : goal.invariant-loop-standing
invariant-loop-standing l =
    AddsSigns (flat_map (lane_signs l.sheet.lanes.items l.column (option_map (λ earlier. earlier.now) l.before)) (take l.standing-index l.standing-items)) (string_bytes l.initial.text) (string_bytes l.text)
