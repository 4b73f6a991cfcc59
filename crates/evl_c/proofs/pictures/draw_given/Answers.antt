use Rattle.std.proofs.Common.{◌≡◌, ◌∙◌, ℕ, List, Option, None, ap, inl, map, subst, sym}
use Rattle.std.specs.Prelude.{IfSome}
use Rattle.evl_plans.specs.Told.{handler_of}
use Rattle.evl_shell.specs.Runs.{trace_of}
use Rattle.lab_lines.specs.Kinds.{IsPlain}
use Rattle.evl_c.specs.Given.{IsUnreadAs}
use Rattle.evl_c.specs.Pictures.{DrawsGiven, DrawsPlayed, Outcome, text_in}
use Rattle.evl_c.proofs.PictureLemmas.{ends_as, undrawn}
use Rattle.evl_c.proofs.pictures.draw_given.Goals as goal

pub returns-in-Ok : goal.returns-in-Ok
returns-in-Ok c =
    let bank = map handler_of c.args.asked.plans.now in
    let page = c.args.asked.page in
    let form = c.args.asked.form in
    let text = c.args.text.now in
    let line = c.args.line in
    let plain = c.in-Ok.plain.items in
    let read : c.text_in.result.now ≡ text_in plain = c.text_in.ensures ∙ ap text_in c.as_slice.ensures.value in
    let is = subst (λ (l : List ℕ). IsPlain l plain) c.as_bytes.ensures.value c.in-Ok.ensures.plain in
    ends_as (DrawsPlayed bank page form c.text_in.result.now line (trace_of bank None c.text_in.result.now)) (DrawsGiven bank page form text line) c.draw_scenario.result
    (λ outcome h. inl (plain, is, subst (λ (l : List ℕ). DrawsPlayed bank page form l line (trace_of bank None l) outcome) read h)) c.draw_scenario.ensures

pub returns-in-Err : goal.returns-in-Err
returns-in-Err c =
    let bank = map handler_of c.args.asked.plans.now in
    let fault = c.in-Err.fault in
    let unread = subst (λ (l : List ℕ). IsUnreadAs l fault) c.as_bytes.ensures.value c.in-Err.ensures.unread in
    subst (λ (o : Option Outcome). IfSome o (DrawsGiven bank c.args.asked.page c.args.asked.form c.args.text.now c.args.line)) (sym c.unplayed.ensures)
    (undrawn bank c.args.asked.page c.args.asked.form c.args.text.now c.args.line fault unread)
