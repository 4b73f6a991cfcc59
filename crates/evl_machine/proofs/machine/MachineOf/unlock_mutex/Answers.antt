use Rattle.std.proofs.Common.{Err, ◌∷◌, ap, ◌∙◌, subst}
use Rattle.evl_machine.specs.mutex_locks.MutexLocks.{TriesToUnlock}
use Rattle.evl_machine.proofs.machine.MachineOf.unlock_mutex.Goals as goal

pub loop-preserved : goal.loop-preserved
loop-preserved g c =
    let busy = c.in-Err-CoreBusy-default.is ∙ ap (λ refusal. Err (refusal, c.in-Err-CoreBusy-default.back)) c.in-Err-CoreBusy-default.field-0-0-is in
    (c.try_unlock_mutex.ensures.machine ∙ c.loop.invariant.0, ((c.loop.spent, c.loop.caller) ∷ c.loop.invariant.1.0, (c.loop.invariant.1.1, subst (λ r. TriesToUnlock c.loop.caller c.loop.spent r c.try_unlock_mutex.new.caller) busy c.try_unlock_mutex.ensures.unlocked)))
