use Rattle.std.proofs.Common.{List, inl, inr, refl, map}
use Rattle.evl_kernel.specs.state.States.{Handler}
use Rattle.evl_plans.specs.Told.{handler_of}
use Rattle.lab_caller_pictures.specs.Drawings.{origin_of}
use Rattle.lab_draws.specs.Draws.{DrawsGiven, DrawsLines, DrawsWhole}
use Rattle.lab_draws.proofs.DrawLemmas.{line_of_misread, lines_are}
use Rattle.lab_streams.proofs.OutputLemmas.{written_as}
use Rattle.lab_draws.proofs.draws.draw_whole.Goals as goal

pub returns-in-Ok-clause-writes : goal.returns-in-Ok-clause-writes
returns-in-Ok-clause-writes g c =
    let bank : List Handler = map handler_of c.args.view.now.bank.now in
    let origin = origin_of c.args.source in
    let read = c.args.read.now in
    let lines = c.as_slice.result.now in
    let told = c.in-Ok.ensures in
    let are = lines_are read read lines c.in-Ok.lines.items c.as_slice.ensures.value refl told.says told.whole told.apart in
    written_as _ (DrawsWhole bank c.args.view.now.drawing origin read c.args.text.now) _ _ _ _ (DrawsLines c.args.view.now.drawing origin lines) c.draw_lines.result (λ output h. inl (lines, are, h)) c.draw_lines.ensures.writes

pub returns-in-Err-Line-clause-writes : goal.returns-in-Err-Line-clause-writes
returns-in-Err-Line-clause-writes g c =
    let bank : List Handler = map handler_of c.args.view.now.bank.now in
    let line = c.in-Err-Line.line in
    let read = c.args.read.now in
    let text = c.args.text.now in
    let misread = line_of_misread read line (rw c.in-Err-Line.field-0-is at c.in-Err-Line.ensures.refused) in
    written_as _ (DrawsWhole bank c.args.view.now.drawing (origin_of c.args.source) read text) _ _ _ _ (DrawsGiven bank c.args.view.now.drawing text line) c.draw_given.result
    (λ output h. inr (line, misread, h)) c.draw_given.ensures.writes
