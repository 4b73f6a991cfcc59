use Rattle.std.proofs.Common.{List, ℕ, codes, inl, inr, map, subst}
use Rattle.evl_kernel.specs.state.States.{Handler}
use Rattle.evl_plans.specs.Told.{handler_of}
use Rattle.lab_caller_pictures.specs.Runs.{IsRunOf, IsWhyOf}
use Rattle.lab_draws.specs.Draws.{DrawsCallers, DrawsRun, unplayed_words}
use Rattle.lab_streams.specs.Endings.{line_about}
use Rattle.lab_streams.proofs.OutputLemmas.{said_of, written_as}
use Rattle.lab_draws.proofs.callers_texts.draw_called.Goals as goal

pub returns-in-Ok-clause-writes : goal.returns-in-Ok-clause-writes
returns-in-Ok-clause-writes g c =
    let bank : List Handler = map handler_of c.args.view.now.bank.now in
    let drawing = c.args.view.now.drawing in
    let run = c.in-Ok.run' in
    let is = subst (λ (t : List ℕ). IsRunOf bank t run) c.as_bytes.ensures.value c.in-Ok.ensures.run in
    written_as _ (DrawsCallers bank drawing c.args.text.now) _ _ _ _ (DrawsRun bank drawing run) c.draw_run.result (λ output h. inl (run, is, h)) c.draw_run.ensures.writes

pub returns-in-Err-clause-writes : goal.returns-in-Err-clause-writes
returns-in-Err-clause-writes g c =
    let bank : List Handler = map handler_of c.args.view.now.bank.now in
    let why = c.in-Err.why in
    let is = subst (λ (t : List ℕ). IsWhyOf bank t why) c.as_bytes.ensures.value c.in-Err.ensures.why in
    said_of _ (DrawsCallers bank c.args.view.now.drawing c.args.text.now) _ _ _ (line_about (codes "lab")) (unplayed_words why) c.tell_unplayed.result (λ output h. inr (why, is, h))
    c.tell_unplayed.ensures.line c.tell_unplayed.ensures.status
