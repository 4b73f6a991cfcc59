use Rattle.std.proofs.Common.{◌∙◌, ap, inl, inr, map}
use Rattle.evl_plans.specs.Told.{handler_of}
use Rattle.lab_drives.specs.Callers.{TellsPlayed, TellsText}
use Rattle.lab_kinds.specs.Kinds.{kind_of}
use Rattle.lab_streams.specs.Endings.{as_callers}
use Rattle.lab_streams.proofs.OutputLemmas.{told_kinded, written_as}
use Rattle.lab_drives.proofs.callers.play_text.Goals as goal

pub returns-in-Ok-clause-writes : goal.returns-in-Ok-clause-writes
returns-in-Ok-clause-writes g c =
    let bank = map handler_of c.args.plans.items in
    let name = c.args.name.now in
    written_as _ (TellsText bank c.args.limit name c.args.text.now) _ _ _ _ (TellsPlayed bank name c.in-Ok.asked) c.play.result (λ output h. inl (c.in-Ok.asked, c.in-Ok.ensures.opens, h)) c.play.ensures.writes

pub returns-in_ok-kind-in-Err-clause-writes : goal.returns-in_ok-kind-in-Err-clause-writes
returns-in_ok-kind-in-Err-clause-writes g c =
    let name = c.args.name.now in
    let text = c.args.text.now in
    told_kinded _ (TellsText (map handler_of c.args.plans.items) c.args.limit name text) _ _ _ name _ (as_callers (kind_of text)) c.in-Err.fault c.tell_fault_by.result c.refused.result
    (c.as_callers.ensures ∙ ap as_callers c.in_ok-kind-in-Err.ensures) (λ output h. inr (c.in-Err.fault, c.in-Err.ensures.refused, h)) c.tell_fault_by.ensures.line c.refused.ensures.status
