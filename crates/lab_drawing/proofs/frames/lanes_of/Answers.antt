use Rattle.std.proofs.Common.{arith, ◌||◌, List, ap, subst, sym}
use Rattle.std.specs.List.{list_any}
use Rattle.lab_drawing.specs.Lanes.{AreSorted, is_lane, touches}
use Rattle.lab_drawing.specs.declared.lanes.Lane.{Lane}
use Rattle.lab_drawing.proofs.LaneLaws.{all_touched, one_touched, touched_sorted}
use Rattle.lab_drawing.proofs.frames.lanes_of.Goals as goal

pub loop-mark-init : goal.loop-mark-init
loop-mark-init c = record {
  sorted = subst AreSorted (sym c.new-lanes.ensures.items) tt;
  touched = λ lane. ap (λ (ls : List Lane). list_any (is_lane lane) ls || list_any (touches lane) c.args.marks.now) c.new-lanes.ensures.items;
}

pub loop-mark-preserved : goal.loop-mark-preserved
loop-mark-preserved c = record {
  sorted = touched_sorted c.args.marks.now c.loop-mark.mark-index _ _ _ c.in_ok-add_touched.ensures c.loop-mark.invariant.sorted;
  touched = one_touched c.args.marks.now c.loop-mark.mark-index _ _ _ (omega arith) c.in_ok-add_touched.ensures c.loop-mark.invariant.touched;
}

pub returns : goal.returns
returns c = record {
  sorted = c.loop-mark.invariant.sorted;
  touched = all_touched c.args.marks.now c.loop-mark.mark-index _ c.loop-mark-test.false c.loop-mark.invariant.touched;
}
