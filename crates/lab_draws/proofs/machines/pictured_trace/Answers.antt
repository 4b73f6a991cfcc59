use Rattle.std.proofs.lemmas.Result.{IfOk-weaker}
use Rattle.lab_draws.proofs.DrawLemmas.{lines_are}
use Rattle.lab_streams.specs.Texts.{text_in}
use Rattle.lab_draws.proofs.machines.pictured_trace.Goals as goal

pub returns-in-Ok : goal.returns-in-Ok
returns-in-Ok c =
    let lines = c.as_slice.result.now in
    let read = c.in-Ok.ensures in
    let are = lines_are (text_in c.args.trace.now) c.text_in.result.now lines c.in-Ok.lines.items c.as_slice.ensures.value c.text_in.ensures read.says read.whole read.apart in
    IfOk-weaker c.pictured_lines.result _ _ (λ pictured h. (lines, are, h)) c.pictured_lines.ensures
