use Rattle.std.proofs.Common.{◌∙◌, List, ap, map}
use Rattle.lab_drawing.specs.Marks.{told_of}
use Rattle.lab_drawing.specs.declared.marks.Mark.{Mark}
use Rattle.lab_caller_pictures.specs.Drawings.{origin_of}
use Rattle.evl_c.specs.Pictures.{DrawsLines, DrawsMarks}
use Rattle.evl_c.proofs.PictureLemmas.{ends_as}
use Rattle.evl_c.proofs.pictures.draw_lines.Goals as goal

pub returns-in-Ok : goal.returns-in-Ok
returns-in-Ok c =
    let page = c.args.asked.page in
    let form = c.args.asked.form in
    let origin = origin_of c.args.source in
    let marks = c.as_slice.result.now in
    let marked = ap (λ (l : List Mark). map told_of l) c.as_slice.ensures.value ∙ c.in-Ok.ensures.marks in
    ends_as (DrawsMarks page form origin marks) (DrawsLines page form origin c.args.lines.now) c.draw_marks.result (λ outcome h. (marks, marked, h)) c.draw_marks.ensures
