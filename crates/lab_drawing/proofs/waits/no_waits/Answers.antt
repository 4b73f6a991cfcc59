use Rattle.std.proofs.Common.{arith, false}
use Rattle.lab_drawing.specs.declared.lanes.Lane.{Lane}
use Rattle.lab_drawing.proofs.PictureLaws.{made_more}
use Rattle.lab_drawing.proofs.waits.no_waits.Goals as goal

pub loop-lane-preserved : goal.loop-lane-preserved
loop-lane-preserved c =
    made_more (λ (lane : Lane). (lane, false)) c.args.lanes.now c.loop-lane.lane-index _ _ _ _ (omega arith) c.in_ok-push.ensures.items c.loop-lane.invariant
