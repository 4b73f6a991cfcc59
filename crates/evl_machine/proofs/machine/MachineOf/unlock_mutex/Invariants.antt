use Rattle.std.proofs.Common.{◌≡◌, List}
use Rattle.evl_words.specs.declared.mutex.MutexPass.{MutexPass}
use Rattle.evl_machine.specs.callers.Handles.{CallerState}
use Rattle.evl_machine.specs.mutex_locks.MutexWaits.{FindsBusy}
use Rattle.evl_machine.proofs.machine.MachineOf.unlock_mutex.Given as goal

abbrev pub invariant-loop : goal.invariant-loop
invariant-loop g l = (l.caller.machine ≡ l.fn.caller.machine) × ((refused : List (MutexPass × CallerState _)) × FindsBusy l.fn.caller l.fn.pass refused l.spent l.caller)
