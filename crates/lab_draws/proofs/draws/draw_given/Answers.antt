use Rattle.std.proofs.Common.{◌≡◌, ◌∙◌, List, ℕ, None, ap, codes, inl, inr, subst, map}
use Rattle.evl_kernel.specs.state.States.{Handler}
use Rattle.evl_plans.specs.Told.{handler_of}
use Rattle.evl_shell.specs.Runs.{trace_of}
use Rattle.lab_lines.specs.Kinds.{IsPlain, IsUnread}
use Rattle.lab_draws.specs.Draws.{DrawsGiven, DrawsPlayed}
use Rattle.lab_streams.specs.Lines.{place_text}
use Rattle.lab_streams.specs.Texts.{text_in}
use Rattle.lab_streams.proofs.OutputLemmas.{told_of, unread_said, written_as}
use Rattle.lab_draws.proofs.draws.draw_given.Goals as goal

pub returns-in-Ok-clause-writes : goal.returns-in-Ok-clause-writes
returns-in-Ok-clause-writes g c =
    let bank : List Handler = map handler_of c.args.view.now.bank.now in
    let text = c.args.text.now in
    let line = c.args.line in
    let plain = c.in-Ok.plain.items in
    let read : c.text_in.result.now ≡ text_in plain = c.text_in.ensures ∙ ap text_in c.as_slice.ensures.value in
    let is = subst (λ (l : List ℕ). IsPlain l plain) (c.in_ok-given.ensures.items ∙ c.as_bytes.ensures.value) c.in-Ok.ensures.plain in
    written_as _ (DrawsGiven bank c.args.view.now.drawing text line) _ _ _ _ (DrawsPlayed bank c.args.view.now.drawing c.text_in.result.now line (trace_of bank None c.text_in.result.now)) c.draw_scenario.result
    (λ output h. inl (plain, is, subst (λ (l : List ℕ). DrawsPlayed bank c.args.view.now.drawing l line (trace_of bank None l) output) read h)) c.draw_scenario.ensures.writes

pub returns-in-Err-clause-writes : goal.returns-in-Err-clause-writes
returns-in-Err-clause-writes g c =
    let bank : List Handler = map handler_of c.args.view.now.bank.now in
    let text = c.args.text.now in
    let fault = c.in-Err.fault in
    let is = subst (λ (l : List ℕ). IsUnread l fault) (c.in_ok-given.ensures.items ∙ c.as_bytes.ensures.value) c.in-Err.ensures.unread in
    told_of _ (DrawsGiven bank c.args.view.now.drawing text c.args.line) _ _ _ (λ l. l) (place_text (codes "lab") fault) c.tell_place.result c.refused.result
    (λ output h. inr (unread_said (codes "lab") text fault output is h)) c.tell_place.ensures.line c.refused.ensures.status
