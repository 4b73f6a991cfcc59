use Rattle.std.proofs.Common.{◌∙◌, List, ℕ, None, Result, Ok, ap, map, subst, sym}
use Rattle.evl_kernel.specs.state.States.{Handler}
use Rattle.evl_plans.specs.Told.{handler_of}
use Rattle.evl_plans.specs.Traces.{Refuses}
use Rattle.evl_scenario.specs.declared.faults.Fault.{Fault}
use Rattle.evl_shell.specs.Runs.{trace_of}
use Rattle.lab_caller_pictures.specs.Drawings.{scenario}
use Rattle.lab_draws.specs.Draws.{DrawsMade, DrawsPlayed}
use Rattle.lab_draws.proofs.DrawLemmas.{unplayed}
use Rattle.lab_streams.proofs.OutputLemmas.{written_as}
use Rattle.lab_draws.proofs.draws.draw_scenario.Goals as goal

pub returns-in-Ok-clause-writes : goal.returns-in-Ok-clause-writes
returns-in-Ok-clause-writes g c =
    let bank : List Handler = map handler_of c.args.view.now.bank.now in
    let drawing = c.args.view.now.drawing in
    let text = c.args.text.now in
    let traced = ap (λ (t : List ℕ). trace_of bank None t) (sym c.as_bytes-bytes.ensures.value) ∙ c.in-Ok.ensures.traced ∙ ap (λ (t : List ℕ). Ok t) (sym c.as_slice.ensures.value) in
    written_as _ (DrawsPlayed bank drawing text c.args.line (trace_of bank None text)) _ _ _ _ (DrawsMade bank drawing (scenario bank text) c.text_in.result.now) c.draw_trace.result
    (λ output h. subst (λ (r : Result (List ℕ) Fault). DrawsPlayed bank drawing text c.args.line r output) (sym traced)
    (subst (λ (l : List ℕ). DrawsMade bank drawing (scenario bank text) l output) c.text_in.ensures h)) c.draw_trace.ensures.writes

pub returns-in-Err-clause-writes : goal.returns-in-Err-clause-writes
returns-in-Err-clause-writes g c =
    let bank : List Handler = map handler_of c.args.view.now.bank.now in
    let refused = subst (λ (t : List ℕ). Refuses (trace_of bank None t) c.in-Err.fault) c.as_bytes-bytes.ensures.value c.in-Err.ensures.refused in
    unplayed _ bank c.args.view.now.drawing c.args.text.now c.args.line _ c.in-Err.fault _ _ _ _ c.draw_unplayed.result refused c.draw_unplayed.ensures.writes
