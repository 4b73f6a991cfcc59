use Rattle.std.proofs.Common.{inl, refl}
use Rattle.lab_drives.proofs.lives.drive_text.Goals as goal

pub returns-in-Ok-None-clause-drives : goal.returns-in-Ok-None-clause-drives
returns-in-Ok-None-clause-drives g c =
    let refused = rw c.in-Ok-None.field-0-is at c.in-Ok-None.ensures.refused in
    inl (record { refused = refused refl; nothing = refl; status_is = refl })
