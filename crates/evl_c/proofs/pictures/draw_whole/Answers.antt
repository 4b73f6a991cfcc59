use Rattle.std.proofs.Common.{inl, inr, map, refl}
use Rattle.evl_plans.specs.Told.{handler_of}
use Rattle.lab_caller_pictures.specs.Drawings.{origin_of}
use Rattle.evl_c.specs.Pictures.{DrawsGiven, DrawsLines, DrawsWhole}
use Rattle.evl_c.proofs.PictureLemmas.{ends_as, line_of_misread, lines_are}
use Rattle.evl_c.proofs.pictures.draw_whole.Goals as goal

pub returns-in-Ok : goal.returns-in-Ok
returns-in-Ok c =
    let bank = map handler_of c.args.asked.plans.now in
    let page = c.args.asked.page in
    let form = c.args.asked.form in
    let origin = origin_of c.args.source in
    let read = c.args.read.now in
    let lines = c.as_slice.result.now in
    let told = c.in-Ok.ensures in
    let are = lines_are read read lines c.in-Ok.lines.items c.as_slice.ensures.value refl told.says told.whole told.apart in
    ends_as (DrawsLines page form origin lines) (DrawsWhole bank page form origin read c.args.text.now) c.draw_lines.result (λ outcome h. inl (lines, are, h)) c.draw_lines.ensures

pub returns-in-Err-Line : goal.returns-in-Err-Line
returns-in-Err-Line c =
    let bank = map handler_of c.args.asked.plans.now in
    let page = c.args.asked.page in
    let form = c.args.asked.form in
    let line = c.in-Err-Line.line in
    let read = c.args.read.now in
    let text = c.args.text.now in
    let misread = line_of_misread read line (rw c.in-Err-Line.field-0-is at c.in-Err-Line.ensures.refused) in
    ends_as (DrawsGiven bank page form text line) (DrawsWhole bank page form (origin_of c.args.source) read text) c.draw_given.result
    (λ outcome h. inr (line, misread, h)) c.draw_given.ensures
