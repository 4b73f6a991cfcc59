use Rattle.lab_drawing.proofs.ShapeLaws.{column_added}
use Rattle.lab_drawing.proofs.svg.put_column.Goals as goal

pub returns : goal.returns
returns c = column_added _ _ _ _ _ _ _ _ c.in_ok-put_stood.ensures c.as_str.ensures.value c.in_ok-put_text.ensures c.in_ok-put_mark.ensures
