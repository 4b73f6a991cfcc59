use Rattle.std.proofs.Common.{codes}
use Rattle.lab_drawing.proofs.ShapeLaws.{picture_made}
use Rattle.lab_drawing.proofs.svg.picture.Goals as goal

pub returns : goal.returns
returns c =
    picture_made _ _ c.args.shows c.args.moments.now c.args.marks.now _ _ _ (codes "</svg>\n") c.in_ok-sheet.ensures.lanes c.in_ok-sheet.ensures.shows c.in_ok-put_columns.ensures
    c.in_ok-extend_from_slice.ensures.items
