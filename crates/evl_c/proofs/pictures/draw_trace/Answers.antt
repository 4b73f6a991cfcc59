use Rattle.std.proofs.Common.{map}
use Rattle.evl_plans.specs.Told.{handler_of}
use Rattle.lab_caller_pictures.specs.Drawings.{scenario}
use Rattle.evl_c.specs.Pictures.{DrawsLines, DrawsTrace, text_in}
use Rattle.evl_c.proofs.PictureLemmas.{ends_as, lines_are}
use Rattle.evl_c.proofs.pictures.draw_trace.Goals as goal

pub returns-in-Ok : goal.returns-in-Ok
returns-in-Ok c =
    let bank = map handler_of c.args.asked.plans.now in
    let page = c.args.asked.page in
    let form = c.args.asked.form in
    let origin = scenario bank c.args.text.now in
    let text = text_in c.args.trace.now in
    let lines = c.as_slice.result.now in
    let read = c.in-Ok.ensures in
    let are = lines_are text c.text_in.result.now lines c.in-Ok.lines.items c.as_slice.ensures.value c.text_in.ensures read.says read.whole read.apart in
    ends_as (DrawsLines page form origin lines) (DrawsTrace page form origin text) c.draw_lines.result (λ outcome h. (lines, are, h)) c.draw_lines.ensures
