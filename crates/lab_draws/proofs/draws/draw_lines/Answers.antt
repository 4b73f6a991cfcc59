use Rattle.std.proofs.Common.{◌∙◌, List, ap, map, subst}
use Rattle.lab_drawing.specs.Marks.{told_of}
use Rattle.lab_drawing.specs.declared.marks.Mark.{Mark}
use Rattle.lab_caller_pictures.specs.Drawings.{origin_of}
use Rattle.lab_draws.specs.Draws.{DrawsLines, DrawsMarks}
use Rattle.lab_streams.proofs.OutputLemmas.{written_as}
use Rattle.lab_draws.proofs.draws.draw_lines.Goals as goal

pub returns-in-Ok-clause-writes : goal.returns-in-Ok-clause-writes
returns-in-Ok-clause-writes g c =
    let origin = origin_of c.args.source in
    let marks = c.as_slice.result.now in
    let marked = ap (λ (l : List Mark). map told_of l) c.as_slice.ensures.value ∙ c.in-Ok.ensures.marks in
    written_as _ (DrawsLines c.args.drawing origin c.args.lines.now) _ _ _ _ (DrawsMarks c.args.drawing.form c.args.drawing origin c.first_of-first.result.now) c.draw_marks.result
    (λ output h. (marks, marked, subst (λ (l : List Mark). DrawsMarks c.args.drawing.form c.args.drawing origin l output) c.first_of-first.ensures h)) c.draw_marks.ensures.writes
