use Rattle.std.proofs.Common.{Some, ap, sym, ◌∙◌}
use Rattle.evl_machine.specs.declared.unfinished.Unfinished.{Unfinished}
use Rattle.evl_machine.specs.declared.unfinished.Unfinished.TheVariants.{Mutex}
use Rattle.evl_machine.specs.declared.caller.CallerOf.TheInside.{Inside}
use Rattle.evl_machine.proofs.callers.Opened.{own_wait}
use Rattle.evl_machine.proofs.machine.MachineOf.finish_lock_mutex.Goals as goal

pub finish_with_kernel-requires-clause-waits : goal.finish_with_kernel-requires-clause-waits
finish_with_kernel-requires-clause-waits g c = own_wait c.caller.inside.actor c.args.caller.now (Some (Mutex c.in-Some-Mutex.mutex)) c.caller.view_is c.caller.invariant (sym (ap (λ (x : Inside _ _). x.actor.wait) c.caller-inside.view_is) ∙ c.in-Some-Mutex.is ∙ ap (λ (u : Unfinished). Some u) (rw c.in-Some-Mutex.is at c.in-Some-Mutex.field-0-is))
