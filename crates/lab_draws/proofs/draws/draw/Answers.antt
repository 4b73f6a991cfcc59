use Rattle.std.proofs.Common.{inl, refl}
use Rattle.lab_draws.proofs.draws.draw.Goals as goal

pub returns-in-Ok-None-clause-writes : goal.returns-in-Ok-None-clause-writes
returns-in-Ok-None-clause-writes g c =
    let refused = rw c.in-Ok-None.field-0-is at c.in-Ok-None.ensures.refused in
    inl (record { refused = refused refl; nothing = refl; status_is = refl })
