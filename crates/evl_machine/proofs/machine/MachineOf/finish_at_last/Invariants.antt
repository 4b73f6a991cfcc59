use Rattle.std.proofs.Common.{◌≡◌, List}
use Rattle.evl_base.specs.declared.refusal.Refusal.{Refusal}
use Rattle.evl_machine.specs.callers.Handles.{CallerState}
use Rattle.evl_machine.specs.mutex_locks.MutexLocks.{FinishesToLock}
use Rattle.evl_machine.specs.mutex_locks.MutexWaits.{Repeats}
use Rattle.evl_machine.proofs.machine.MachineOf.finish_at_last.Given as goal

abbrev pub invariant-loop : goal.invariant-loop
invariant-loop g l = (l.caller.machine ≡ l.fn.caller.machine) × ((refused : List (Refusal × CallerState _)) × Repeats FinishesToLock l.fn.caller refused l.caller)
