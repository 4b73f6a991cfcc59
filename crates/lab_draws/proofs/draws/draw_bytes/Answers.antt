use Rattle.std.proofs.Common.{List, map}
use Rattle.evl_kernel.specs.state.States.{Handler}
use Rattle.evl_plans.specs.Told.{handler_of}
use Rattle.evl_scenario.proofs.Texts.{is_utf8-false, is_utf8-true}
use Rattle.lab_draws.proofs.DrawLemmas.{of_no_text, of_text}
use Rattle.lab_draws.proofs.draws.draw_bytes.Goals as goal

pub returns-in-Ok-clause-writes : goal.returns-in-Ok-clause-writes
returns-in-Ok-clause-writes g c =
    let bank : List Handler = map handler_of c.args.view.now.bank.now in
    of_text _ bank c.args.view.now.drawing c.args.bytes.now c.in-Ok.text.now _ _ _ _ c.draw_some.result c.in-Ok.ensures.cases.0 (is_utf8-true c.args.bytes.now c.in-Ok.ensures.cases.1) c.draw_some.ensures.writes

pub returns-in-Err-clause-writes : goal.returns-in-Err-clause-writes
returns-in-Err-clause-writes g c =
    let bank : List Handler = map handler_of c.args.view.now.bank.now in
    of_no_text _ bank c.args.view.now.drawing c.args.bytes.now _ _ _ c.tell_undrawn.result (is_utf8-false c.args.bytes.now c.in-Err.ensures.cases.0) c.tell_undrawn.ensures.line c.tell_undrawn.ensures.status
