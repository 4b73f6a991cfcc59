use Rattle.lab_streams.proofs.BankLemmas.{bank_refused}
use Rattle.lab_streams.proofs.banks.read_text.Goals as goal

pub returns-in-Ok-tell_fault-clause-refused : goal.returns-in-Ok-tell_fault-clause-refused
returns-in-Ok-tell_fault-clause-refused g c = λ none. bank_refused c.args.path.now c.args.text.now c.in-Err.fault _ _ c.in-Err.ensures.err c.in-Ok-tell_fault.ensures.line
