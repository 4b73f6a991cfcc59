use Rattle.std.proofs.Common.{inl, refl}
use Rattle.lab_plays.proofs.notes.note_files.Goals as goal

pub returns-in-Ok-None-clause-notes : goal.returns-in-Ok-None-clause-notes
returns-in-Ok-None-clause-notes g c =
    let refused = rw c.in-Ok-None.field-0-is at c.in-Ok-None.ensures.refused in
    inl (record { refused = refused refl; nothing = refl; status_is = refl })
