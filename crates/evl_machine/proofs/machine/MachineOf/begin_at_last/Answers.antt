use Rattle.std.proofs.Common.{sym, ◌∙◌}
use Rattle.evl_machine.specs.mutex_locks.MutexLocks.{BeginsToLock}
use Rattle.evl_machine.proofs.mutex_locks.MutexWaitLaws.{repeats_more}
use Rattle.evl_machine.proofs.machine.MachineOf.begin_at_last.Goals as goal

pub loop-preserved : goal.loop-preserved
loop-preserved g c = (c.begin_lock_mutex-answer.ensures.machine ∙ c.loop.invariant.0, repeats_more (λ b r b'. BeginsToLock b c.args.mutex c.args.until r b') c.args.caller.now c.loop.caller c.begin_lock_mutex-answer.new.caller _ c.begin_lock_mutex-answer.result c.loop.invariant.1.1 c.begin_lock_mutex-answer.ensures.begun (sym c.passes.ensures ∙ c.if-not-passes.false))
