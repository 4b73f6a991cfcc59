use Rattle.std.proofs.Common.{List, map}
use Rattle.std.specs.Prelude.{None, Some}
use Rattle.evl_kernel.specs.state.States.{Handler}
use Rattle.evl_plans.specs.Told.{handler_of}
use Rattle.lab_draws.specs.Draws.{DrawsMade, DrawsRun}
use Rattle.lab_draws.proofs.DrawLemmas.{run_drawn}
use Rattle.lab_streams.proofs.OutputLemmas.{written_as}
use Rattle.lab_draws.proofs.callers_texts.draw_run.Goals as goal

pub returns-in-Some-clause-writes : goal.returns-in-Some-clause-writes
returns-in-Some-clause-writes g c =
    let bank : List Handler = map handler_of c.args.view.now.bank.now in
    let drawing = c.args.view.now.drawing in
    let run = c.args.run.now in
    let lines = c.as_str-lines.result.now in
    written_as _ (DrawsRun bank drawing run) _ _ _ _ (DrawsMade bank drawing _ lines) c.draw_trace.result
    (λ output h. run_drawn bank drawing run (Some c.in-Some.known) lines output c.in-Some.is c.as_str-lines.ensures.value h) c.draw_trace.ensures.writes

pub returns-in-None-clause-writes : goal.returns-in-None-clause-writes
returns-in-None-clause-writes g c =
    let bank : List Handler = map handler_of c.args.view.now.bank.now in
    let drawing = c.args.view.now.drawing in
    let run = c.args.run.now in
    let lines = c.as_str-lines.result.now in
    written_as _ (DrawsRun bank drawing run) _ _ _ _ (DrawsMade bank drawing _ lines) c.draw_trace-in-None.result
    (λ output h. run_drawn bank drawing run None lines output c.in-None.is c.as_str-lines.ensures.value h) c.draw_trace-in-None.ensures.writes
