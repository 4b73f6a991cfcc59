use Rattle.lab_faults.proofs.checks.why_stopped.Goals as goal

pub returns-in_ok-words-in-None : goal.returns-in_ok-words-in-None
returns-in_ok-words-in-None c = rw c.in-None.is (c.reason.result.now, c.reason.ensures, c.in_ok-words-in-None.ensures)
