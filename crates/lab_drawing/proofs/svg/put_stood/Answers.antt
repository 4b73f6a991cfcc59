use Rattle.lab_drawing.proofs.ShapeLaws.{both_added}
use Rattle.lab_drawing.proofs.svg.put_stood.Goals as goal

pub returns : goal.returns
returns c = rw c.in-Some.is (both_added _ _ _ _ _ c.in_ok-put_moment.ensures c.in_ok-put_shown_waits.ensures)
