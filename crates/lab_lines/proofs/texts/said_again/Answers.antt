use Rattle.std.proofs.Common.{inr, refl}
use Rattle.lab_lines.proofs.texts.said_again.Goals as goal

pub returns-in-Ok : goal.returns-in-Ok
returns-in-Ok c = inr (_, refl)
