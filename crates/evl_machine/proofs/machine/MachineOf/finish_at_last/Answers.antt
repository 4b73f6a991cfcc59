use Rattle.std.proofs.Common.{sym, ◌∙◌}
use Rattle.evl_machine.specs.mutex_locks.MutexLocks.{FinishesToLock}
use Rattle.evl_machine.proofs.mutex_locks.MutexWaitLaws.{repeats_more}
use Rattle.evl_machine.proofs.machine.MachineOf.finish_at_last.Goals as goal

pub loop-preserved : goal.loop-preserved
loop-preserved g c = (c.finish_lock_mutex-answer.ensures.machine ∙ c.loop.invariant.0, repeats_more FinishesToLock c.args.caller.now c.loop.caller c.finish_lock_mutex-answer.new.caller _ c.finish_lock_mutex-answer.result c.loop.invariant.1.1 c.finish_lock_mutex-answer.ensures.finished (sym c.passes.ensures ∙ c.if-not-passes.false))
