use Rattle.std.proofs.Common.{arith}
use Rattle.lab_drawing.specs.Shapes.{wait_signs}
use Rattle.lab_drawing.proofs.ShapeLaws.{item_added}
use Rattle.lab_drawing.proofs.waits.put_waits.Goals as goal

pub loop-wait-preserved : goal.loop-wait-preserved
loop-wait-preserved c = item_added wait_signs c.args.waits.now c.loop-wait.wait-index _ _ _ _ (omega arith) c.loop-wait.invariant c.in_ok-put_wait.ensures
