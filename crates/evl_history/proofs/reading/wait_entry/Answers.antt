use Rattle.evl_history.proofs.RowLaws.{has_number_else}
use Rattle.evl_history.proofs.reading.wait_entry.Goals as goal

pub returns-in_default : goal.returns-in_default
returns-in_default c = record { entry = λ late wide bytes. c.number_entry.ensures.entry (has_number_else c.args.row late c.in_default.not-BeginGet c.in_default.not-BeginGetUntil c.in_default.not-BeginTake c.in_default.not-BeginRead c.in_default.not-Claim c.in_default.not-ClaimUntil) wide bytes }
