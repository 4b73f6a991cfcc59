use Rattle.std.proofs.Common.{inr, refl}
use Rattle.lab_lines.proofs.texts.fault_of.Goals as goal

pub returns-in-Unread-clause-at : goal.returns-in-Unread-clause-at
returns-in-Unread-clause-at c = inr (c.in-Unread.unread, refl)
