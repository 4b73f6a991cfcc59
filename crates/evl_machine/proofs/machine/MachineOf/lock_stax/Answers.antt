use Rattle.std.proofs.Common.{ap, subst}
use Rattle.evl_machine.specs.calls.Calls.{stage_of_caller}
use Rattle.evl_machine.specs.stax_locks.StaxCalls.{StaxCall}
use Rattle.evl_machine.specs.stax_locks.StaxWaits.{RetriesOnce}
use Rattle.evl_machine.proofs.stax_locks.StaxWaitLaws.{retries_again}
use Rattle.evl_machine.proofs.machine.MachineOf.lock_stax.Goals as goal

pub loop-preserved : goal.loop-preserved
loop-preserved g c =
    let once = subst (λ stage. StaxCall c.loop.caller (λ old new. RetriesOnce c.args.stax.0 stage c.loop.marked old c.in-Err.now new) c.try_marking.new.caller) (ap stage_of_caller c.loop.invariant.0) c.in-Err.ensures.tried in
    retries_again c.args.stax.0 _ _ c.loop.caller _ _ c.loop.invariant _ once
