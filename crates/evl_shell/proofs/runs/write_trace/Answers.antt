use Rattle.evl_shell.proofs.PassLemmas.{Appends-flush, Stopped-flush, Stopped-none}
use Rattle.evl_shell.proofs.runs.write_trace.Goals as goal

pub returns-in-Ok-flush-clause-ok : goal.returns-in-Ok-flush-clause-ok
returns-in-Ok-flush-clause-ok g c = Appends-flush _ _ _ _ _ _ c.new-chunks.ensures c.in-Ok.ensures.ok c.in-Ok-flush.ensures.ok

pub returns-in-Ok-clause-stopped : goal.returns-in-Ok-clause-stopped
returns-in-Ok-clause-stopped g c = Stopped-flush _ _ _ _ _ _ _ c.new-chunks.ensures c.in-Ok.ensures.ok c.in-Err-flush.ensures.part c.in-Err-flush.ensures.failed

pub returns-clause-stopped : goal.returns-clause-stopped
returns-clause-stopped g c = Stopped-none _ _ _ _ _ _ c.new-chunks.ensures c.in-Err.ensures.stopped
