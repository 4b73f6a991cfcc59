use Rattle.std.proofs.Common.{◌≡◌, ◌||◌, drop}
use Rattle.std.specs.List.{list_any}
use Rattle.lab_drawing.specs.Lanes.{AreSorted, is_lane, touches}
use Rattle.lab_drawing.specs.declared.lanes.Lane.{Lane}
use Rattle.lab_drawing.proofs.frames.lanes_of.Given as goal

abbrev pub invariant-loop-mark : goal.invariant-loop-mark
invariant-loop-mark l = record {
  sorted : AreSorted l.lanes.items;
  touched : (lane : Lane) → (list_any (is_lane lane) l.lanes.items || list_any (touches lane) (drop l.mark-index l.marks)) ≡ list_any (touches lane) l.marks;
}
