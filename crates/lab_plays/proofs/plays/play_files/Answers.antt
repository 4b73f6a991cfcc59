use Rattle.std.proofs.Common.{inl, refl}
use Rattle.lab_plays.proofs.plays.play_files.Goals as goal

pub returns-in-Ok-None-clause-plays : goal.returns-in-Ok-None-clause-plays
returns-in-Ok-None-clause-plays g c =
    let refused = rw c.in-Ok-None.field-0-is at c.in-Ok-None.ensures.refused in
    inl (record { refused = refused refl; nothing = refl; status_is = refl })
