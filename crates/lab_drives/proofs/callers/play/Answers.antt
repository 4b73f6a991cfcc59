use Rattle.std.proofs.Common.{◌≡◌, Err, ap, codes, inl, inr, map, refl}
use Rattle.std.proofs.lemmas.List.{length-map}
use Rattle.evl_plans.specs.Told.{handler_of as told_by}
use Rattle.lab_drives.specs.Callers.{PlaysOver, TellsPlayed, played_told}
use Rattle.lab_streams.specs.Endings.{line_about}
use Rattle.lab_streams.specs.Outputs.{Output}
use Rattle.lab_streams.proofs.OutputLemmas.{told, written_as}
use Rattle.lab_drives.proofs.callers.play.Goals as goal

pub returns-in-Ok-clause-writes : goal.returns-in-Ok-clause-writes
returns-in-Ok-clause-writes g c =
    let bank = map told_by c.args.plans.items in
    let played = c.in-Ok.played in
    let over : PlaysOver bank c.args.asked played = record { plans = c.args.plans.items; bank_is = refl; is_told = c.in-Ok.ensures.told } in
    written_as _ (TellsPlayed bank c.args.name.now c.args.asked) _ _ _ _ (λ (output : Output). output ≡ played_told c.args.name.now played) c.tell_played.result
    (λ output h. inl (played, over, h)) c.tell_played.ensures.writes

pub returns-in-Err-Range-clause-writes : goal.returns-in-Err-Range-clause-writes
returns-in-Err-Range-clause-writes g c =
    told _ (TellsPlayed (map told_by c.args.plans.items) c.args.name.now c.args.asked) _ _ _ (line_about c.args.name.now (codes "bad board")) c.tell_refused.result c.refused.result
    (inr (rw (length-map c.args.plans.items told_by) (c.in-Err-Range.ensures.range.0 (ap Err c.in-Err-Range.field-0-is)), refl)) c.tell_refused.ensures.line c.refused.ensures.status
