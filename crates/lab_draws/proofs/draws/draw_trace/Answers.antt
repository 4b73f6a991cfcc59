use Rattle.std.proofs.Common.{List, map, refl}
use Rattle.evl_kernel.specs.state.States.{Handler}
use Rattle.evl_plans.specs.Told.{handler_of}
use Rattle.lab_caller_pictures.specs.Drawings.{origin_of}
use Rattle.lab_draws.specs.Draws.{DrawsMade, DrawsOver}
use Rattle.lab_draws.proofs.DrawLemmas.{lines_are}
use Rattle.lab_streams.proofs.OutputLemmas.{written_as}
use Rattle.lab_draws.proofs.draws.draw_trace.Goals as goal

pub returns-in-Ok-clause-writes : goal.returns-in-Ok-clause-writes
returns-in-Ok-clause-writes g c =
    let bank : List Handler = map handler_of c.args.view.now.bank.now in
    let drawing = c.args.view.now.drawing in
    let origin = origin_of c.args.source in
    let text = c.args.trace.now in
    let lines = c.as_slice.result.now in
    let read = c.in-Ok.ensures in
    let are = lines_are text text lines c.in-Ok.lines.items c.as_slice.ensures.value refl read.says read.whole read.apart in
    written_as _ (DrawsMade bank drawing origin text) _ _ _ _ (DrawsOver bank drawing origin lines) c.draw_over.result (λ output h. (lines, are, h)) c.draw_over.ensures.writes
