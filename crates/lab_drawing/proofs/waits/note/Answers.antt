use Rattle.std.proofs.Common.{arith, Bool, false, ap, get_or}
use Rattle.lab_drawing.specs.Pictures.{wait_behind}
use Rattle.lab_drawing.specs.declared.lanes.Lane.TheVariants.{Thread}
use Rattle.lab_drawing.proofs.PictureLaws.{written_more}
use Rattle.lab_drawing.proofs.waits.note.Goals as goal

pub loop-wait-preserved : goal.loop-wait-preserved
loop-wait-preserved c =
    written_more (wait_behind c.args.mark.now) c.loop-wait.waits c.loop-wait.wait-index (Thread 0, false)
    ((get_or c.loop-wait.waits c.loop-wait.wait-index (Thread 0, false)).0, c.goes_on_behind.result) _ (omega arith)
    (ap (λ (b : Bool). ((get_or c.loop-wait.waits c.loop-wait.wait-index (Thread 0, false)).0, b)) c.goes_on_behind.ensures) c.loop-wait.invariant
