use Rattle.lab_kinds.proofs.BankLaws.{tells_read, tells_refused}
use Rattle.lab_kinds.proofs.banks.check_bank.Goals as goal

pub returns-in-Ok : goal.returns-in-Ok
returns-in-Ok c = tells_read _ _ c.new.result.items c.in-Ok.ensures.ok c.new.ensures.items

pub returns-in_ok-found-in-Err : goal.returns-in_ok-found-in-Err
returns-in_ok-found-in-Err c = tells_refused _ _ _ c.in_ok-found-in-Err.ensures.other c.in-Err.ensures.err c.in_ok-found-in-Err.ensures.told
