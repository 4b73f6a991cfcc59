use Rattle.std.proofs.Common.{arith, Bor, option_map}
use Rattle.lab_drawing.specs.Shapes.{lane_signs}
use Rattle.lab_drawing.specs.declared.moments.Moment.{Moment}
use Rattle.lab_drawing.proofs.ShapeLaws.{item_added, moment_added}
use Rattle.lab_drawing.proofs.strips.put_moment.Goals as goal

pub loop-standing-preserved : goal.loop-standing-preserved
loop-standing-preserved c =
    item_added (lane_signs c.args.sheet.now.lanes.items c.args.column (option_map (λ (earlier : Bor Moment). earlier.now) c.args.before)) c.deref-standing-items.result.now
    c.loop-standing.standing-index _ _ _ _ (omega arith) c.loop-standing.invariant c.in_ok-put_told_standing.ensures

pub returns : goal.returns
returns c =
    let before = option_map (λ (earlier : Bor Moment). earlier.now) c.args.before in
    moment_added c.args.sheet.now.lanes.items c.args.column c.args.moment.now before c.tells_date-tells.result c.loop-standing.standing-index c.deref-standing-items.result.now _ _ _
    c.tells_date-tells.ensures c.deref-standing-items.ensures.value (omega arith) c.in_ok-put_told_date.ensures c.loop-standing.invariant
