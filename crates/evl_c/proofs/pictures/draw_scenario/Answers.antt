use Rattle.std.proofs.Common.{◌∙◌, ℕ, List, Option, None, Result, Ok, ap, map, subst, sym}
use Rattle.std.specs.Prelude.{IfSome}
use Rattle.evl_plans.specs.Told.{handler_of}
use Rattle.evl_scenario.specs.declared.faults.Fault.{Fault}
use Rattle.evl_shell.specs.Runs.{trace_of}
use Rattle.lab_caller_pictures.specs.Drawings.{scenario}
use Rattle.evl_c.specs.Pictures.{DrawsPlayed, DrawsTrace, Outcome, text_in}
use Rattle.evl_c.proofs.PictureLemmas.{ends_as, unplayed}
use Rattle.evl_c.proofs.pictures.draw_scenario.Goals as goal

pub returns-in-Ok : goal.returns-in-Ok
returns-in-Ok c =
    let bank = map handler_of c.args.asked.plans.now in
    let page = c.args.asked.page in
    let form = c.args.asked.form in
    let text = c.args.text.now in
    let traced = c.in-Ok.ensures.traced ∙ ap (λ (t : List ℕ). Ok t) (sym c.as_slice.ensures.value) in
    ends_as (DrawsTrace page form (scenario bank text) (text_in c.as_slice.result.now)) (DrawsPlayed bank page form text c.args.line (trace_of bank None text)) c.draw_trace.result
    (λ outcome h. subst (λ (r : Result (List ℕ) Fault). DrawsPlayed bank page form text c.args.line r outcome) (sym traced) h) c.draw_trace.ensures

pub returns-in-Err : goal.returns-in-Err
returns-in-Err c =
    let bank = map handler_of c.args.asked.plans.now in
    let made = trace_of bank None c.args.text.now in
    subst (λ (o : Option Outcome). IfSome o (DrawsPlayed bank c.args.asked.page c.args.asked.form c.args.text.now c.args.line made)) (sym c.unplayed.ensures)
    (unplayed bank c.args.asked.page c.args.asked.form c.args.text.now c.args.line made c.in-Err.fault c.in-Err.ensures.refused)
