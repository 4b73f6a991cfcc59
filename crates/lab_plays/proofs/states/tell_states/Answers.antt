use Rattle.std.proofs.Common.{inl, refl}
use Rattle.lab_plays.proofs.states.tell_states.Goals as goal

pub returns-in-Ok-None-clause-tells : goal.returns-in-Ok-None-clause-tells
returns-in-Ok-None-clause-tells g c =
    let refused = rw c.in-Ok-None.field-0-is at c.in-Ok-None.ensures.refused in
    inl (record { refused = refused refl; nothing = refl; status_is = refl })
