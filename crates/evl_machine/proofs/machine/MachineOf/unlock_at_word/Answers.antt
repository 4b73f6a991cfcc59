use Rattle.std.proofs.Common.{ap, ◌∙◌}
use Rattle.evl_machine.specs.calls.Calls.{wait_of_caller}
use Rattle.evl_machine.proofs.mutex_locks.MutexUnlocks.{still_has, unlocked_by_kernel}
use Rattle.evl_machine.proofs.machine.MachineOf.unlock_at_word.Goals as goal

pub release_with_kernel-requires-clause-once : goal.release_with_kernel-requires-clause-once
release_with_kernel-requires-clause-once g c = still_has _ _ _ _ _ c.requires.own c.in-Claimed.is c.unlock_word.ensures.unlocked c.unlock_word.ensures.seats

pub returns-in-Claimed-clause-unlocked : goal.returns-in-Claimed-clause-unlocked
returns-in-Claimed-clause-unlocked g c = unlocked_by_kernel _ _ _ _ _ _ _ c.requires.own c.in-Claimed.is c.unlock_word.ensures.unlocked c.release_with_kernel.ensures.visits

pub release_with_kernel-requires-clause-idle : goal.release_with_kernel-requires-clause-idle
release_with_kernel-requires-clause-idle g c = ap wait_of_caller c.unlock_word.ensures.unlocked.0 ∙ c.requires.idle
