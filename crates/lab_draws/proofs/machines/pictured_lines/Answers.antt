use Rattle.std.proofs.Common.{◌∙◌, List, ap, map}
use Rattle.lab_drawing.specs.Marks.{told_of}
use Rattle.lab_drawing.specs.declared.marks.Mark.{Mark}
use Rattle.lab_draws.proofs.machines.pictured_lines.Goals as goal

pub returns : goal.returns
returns c =
    let marks = c.as_slice-marks.result.now in
    let marked = ap (λ (l : List Mark). map told_of l) c.as_slice-marks.ensures.value ∙ c.in_ok-marks.ensures.marks in
    (marks, marked, c.page_count.ensures, c.in_ok-picture.ensures)
