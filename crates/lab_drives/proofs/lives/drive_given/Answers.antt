use Rattle.std.proofs.Common.{codes, subst, sym}
use Rattle.lab_lines.specs.Kinds.{IsPlain}
use Rattle.lab_streams.specs.Lines.{place_text}
use Rattle.lab_drives.specs.Lives.{SaysUndriven}
use Rattle.lab_drives.proofs.LiveLemmas.{given_read, given_unread}
use Rattle.lab_streams.proofs.OutputLemmas.{told_of, unread_said}
use Rattle.lab_drives.proofs.lives.drive_given.Goals as goal

pub returns-in-Ok-clause-drives : goal.returns-in-Ok-clause-drives
returns-in-Ok-clause-drives g c =
    let is : IsPlain c.args.text.items c.as_slice.result.now = subst (IsPlain c.args.text.items) (sym c.as_slice.ensures.value) c.in-Ok.ensures.plain in
    given_read _ c.args.driving c.args.text.items c.as_slice.result.now _ _ _ _ _ c.drive_text.result is c.drive_text.ensures.drives

pub returns-in-Err-clause-drives : goal.returns-in-Err-clause-drives
returns-in-Err-clause-drives g c =
    let text = c.args.text.items in
    let fault = c.in-Err.fault in
    given_unread _ c.args.driving text _ _ _ _ _ c.refused.result
    (told_of _ (SaysUndriven text) _ _ _ (λ l. l) (place_text (codes "lab") fault) c.tell_place.result c.refused.result
    (λ output h. unread_said (codes "lab") text fault output c.in-Err.ensures.unread h) c.tell_place.ensures.line c.refused.ensures.status)
