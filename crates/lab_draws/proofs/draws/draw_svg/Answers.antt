use Rattle.std.proofs.Common.{inl, inr, refl}
use Rattle.lab_caller_pictures.specs.Drawings.{origin_of}
use Rattle.lab_draws.specs.Draws.{DrawsPage, DrawsSvg, no_page_text}
use Rattle.lab_streams.proofs.OutputLemmas.{said, written_as}
use Rattle.lab_draws.proofs.draws.draw_svg.Goals as goal

pub returns-then-drawing-all-clause-writes : goal.returns-then-drawing-all-clause-writes
returns-then-drawing-all-clause-writes g c =
    let all = c.page_count-all.result in
    said _ (DrawsSvg c.args.drawing (origin_of c.args.source) c.args.marks.now) _ _ _ 2 (no_page_text c.args.drawing.page all) c.tell_no_page.result
    (all, c.page_count-all.ensures, inl (c.if-drawing-all.true, refl)) c.tell_no_page.ensures.line c.tell_no_page.ensures.status

pub returns-else-drawing-all-clause-writes : goal.returns-else-drawing-all-clause-writes
returns-else-drawing-all-clause-writes g c =
    let all = c.page_count-all.result in
    let origin = origin_of c.args.source in
    written_as _ (DrawsSvg c.args.drawing origin c.args.marks.now) _ _ _ _ (DrawsPage c.args.drawing origin c.args.marks.now all) c.draw_page.result
    (λ output h. (all, c.page_count-all.ensures, inr (c.if-drawing-all.false, h))) c.draw_page.ensures.writes
