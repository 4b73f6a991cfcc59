-- A caller that takes the kernel, does something with it, and gives it back.
use Rattle.std.specs.Prelude.{◌≡◌, ◌⊎◌, ◌++◌, List, length}
use Rattle.evl_base.specs.declared.entry.Entry.{Entry}
use Rattle.evl_base.specs.declared.refusal.Refusal.{Refusal}
use Rattle.evl_base.specs.declared.refusal.Refusal.TheVariants.{HistoryFull}
use Rattle.evl_kernel.specs.state.KernelViews.{KernelView}
use Rattle.evl_core.specs.accounts.Accounts.{GoesOn, IsAccount, MadeBy}
use Rattle.evl_machine.specs.callers.Actors.{ActorState}
use Rattle.evl_machine.specs.calls.Calls.{TookKernel, stage_of_caller, wait_of_caller}
use Rattle.evl_core.specs.worlds.Events.{FailsToTake, Gives, Takes}
use Rattle.evl_machine.specs.callers.Handles.{CallerState, HeldState, returned, turned_away}
use Rattle.evl_machine.specs.callers.OneSteps.{StepsOnWords}
use Rattle.evl_core.specs.rule.Known.{ComesFrom}

module _ {C : Type 0} where
  -- what a caller has beside its seat at the core
  abbrev pub actor_of : CallerState C → ActorState
  actor_of c = record { thread = record { 0 = c.account.thread }; stage = stage_of_caller c; wait = wait_of_caller c; staxes = c.staxes; mutexes = c.mutexes }

  -- rule: A call on a mutex takes the kernel at most once. Either the caller's own calls grow by just what it entered,
  --   or the take was lost and nothing else changed (but the step of `try_unlock_mutex` at the word).
  --   also: Visits.Visits; MutexLocks.MutexCall
  -- The caller took the kernel and gave it back. The kernel that it gave goes on from the one that it took, by calls of its thread alone, which are what is new of its own calls. It has now seen the history that it gave. In between it did this, by steps on the words of mutexes, each from what the one before it left, the first from what the take left
  pub record Visited (old : CallerState C) (deed : ActorState → KernelView C → ActorState → KernelView C → Type 0) (new : CallerState C) : Type 0 where
    pub held : HeldState C
    pub took : TookKernel old held
    pub given : KernelView C
    pub added : List Entry
    pub longer : GoesOn held.kernel.history added given.history
    pub own : MadeBy old.account.thread added
    pub comes : ComesFrom held.kernel given
    pub back : new ≡ record (returned given.history new.lock held.caller) { mutexes = new.mutexes }
    pub mine : new.account.mine ≡ old.account.mine ++ added
    pub just : IsAccount new.account
    pub does : deed (actor_of old) held.kernel (actor_of new) given
    pub words : StepsOnWords held.caller (record held.caller { mutexes = new.mutexes })
    pub takes : Takes old.machine.first old.account old.lock held.caller.account held.caller.lock
    pub gives : Gives old.machine.first held.caller.account held.caller.lock given new.account new.lock

  -- another caller has the kernel: one take more is lost, and nothing else changes
  abbrev pub FindsTaken : CallerState C → CallerState C → Type 0
  FindsTaken old new = (new ≡ turned_away new.lock old) × FailsToTake old.machine.first old.account old.lock new.account new.lock

  -- it takes the kernel and gives it back, or learns that another caller has it
  abbrev pub Visits : Type 0 → CallerState C → (ActorState → KernelView C → ActorState → KernelView C → Type 0) → CallerState C → Type 0
  Visits busy old does new = (busy × FindsTaken old new) ⊎ Visited old does new

  -- the history is full only where what the caller has now seen has as many entries as its machine has room for
  abbrev pub FullOnly : CallerState C → Refusal → Type 0
  FullOnly c refusal = refusal ≡ HistoryFull → length c.account.seen.entries ≡ c.machine.first.limit
