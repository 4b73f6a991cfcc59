use Rattle.lab_caller_pictures.specs.Drawings.{origin_of}
use Rattle.lab_draws.specs.Draws.{DrawsPage, page_text}
use Rattle.lab_draws.proofs.DrawLemmas.{is_page}
use Rattle.lab_streams.proofs.OutputLemmas.{written_out}
use Rattle.lab_draws.proofs.draws.draw_page.Goals as goal

pub returns-in-Ok-clause-writes : goal.returns-in-Ok-clause-writes
returns-in-Ok-clause-writes g c =
    let origin = origin_of c.args.source in
    let marks = c.args.marks.now in
    written_out _ (DrawsPage c.args.drawing origin marks c.args.all) _ _ _ _ c.as_slice.result.now (page_text c.args.drawing.page c.args.all) 0 c.put.result
    (is_page c.args.drawing origin marks c.goes_asked-asked.result c.saturating_sub-number.result c.args.all _ c.as_slice.result.now c.goes_asked-asked.ensures c.saturating_sub-number.ensures
    c.as_slice.ensures.value c.in-Ok.ensures) c.put.ensures.bytes c.in_ok-tell_page.ensures.text c.put.ensures.status
