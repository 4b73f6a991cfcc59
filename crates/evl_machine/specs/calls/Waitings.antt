-- The deeds of a caller that waits for an element: it begins the wait, looks at the kernel until the wait is over, and finishes it.
use Rattle.std.specs.Prelude.{◌≡◌, ◌≢◌, ◌⊎◌, ℕ, List, [], ◌∷◌, Bool, true, false, Option, Result, Ok, Err, MatchBool, MatchOption}
use Rattle.evl_base.specs.declared.call.Call.{Call}
use Rattle.evl_base.specs.declared.call.Call.TheVariants.{Finish}
use Rattle.evl_base.specs.declared.refusal.Refusal.{Refusal}
use Rattle.evl_base.specs.declared.refusal.Refusal.TheVariants.{Again}
use Rattle.evl_base.specs.declared.reply.Reply.{Reply}
use Rattle.evl_base.specs.declared.reply.Reply.TheVariants.{Begun}
use Rattle.evl_kernel.specs.waiting.Waits.{has_ended}
use Rattle.evl_core.specs.lock.Lock.{LockView}
use Rattle.evl_core.specs.declared.views.Account.{Account}
use Rattle.evl_core.specs.accounts.Accounts.{BeginsWith, IsAccount, saw}
use Rattle.evl_machine.specs.callers.Actors.{keeps_stage, stage_in}
use Rattle.evl_kernel.specs.state.KernelViews.{KernelView}
use Rattle.evl_core.specs.worlds.Events.{FailsToTake, Gives, Takes}
use Rattle.evl_machine.specs.callers.Handles.{CallerState}
use Rattle.evl_machine.specs.calls.Calls.{Answered, Called, CalledAtLast}
use Rattle.evl_core.specs.words.MutexSeats.{holds_mutex}
use Rattle.evl_machine.specs.stax_locks.StaxSeats.{holds_stax}

-- A look: the kernel was taken and given back, and no call was made. The history that the caller has now seen begins with what it had seen, nobody has changed the stage of its thread, and its wait goes on there
pub record Look {C : Type 0} (first : KernelView C) (a : Account) (l : LockView) (a' : Account) (l' : LockView) : Type 0 where
  pub room : ℕ
  pub now : a' ≡ saw a'.seen room a
  pub later : BeginsWith a'.seen a.seen
  pub stage : stage_in a'.seen a.thread ≡ stage_in a.seen a.thread
  pub goes_on : has_ended a'.seen.state a.thread ≡ false
  pub account : IsAccount a'
  pub held : Account
  pub between : LockView
  pub kernel : KernelView C
  pub takes : Takes first a l held between
  pub gives : Gives first held between kernel a' l'

-- whether an answer begins a wait
abbrev pub begins_wait : Result Reply Refusal → Bool
begins_wait (Ok Begun) = true
begins_wait answer = false

module _ {C : Type 0} where
  -- looks, and takes that found the core taken, one after another, each from where the one before it ended
  abbrev pub LooksBy : KernelView C → Account → LockView → List (Account × LockView) → Account → LockView → Type 0
  LooksBy first a l [] a' l' = (a' ≡ a) × (l' ≡ l)
  LooksBy first a l (next ∷ looks) a' l' = (Look first a l next.0 next.1 ⊎ FailsToTake first a l next.0 next.1) × LooksBy first next.0 next.1 looks a' l'

  abbrev pub Looks : KernelView C → Account → LockView → Account → LockView → Type 0
  Looks first a l a' l' = (looks : List (Account × LockView)) × LooksBy first a l looks a' l'

  -- a wait was looked at and goes on, or it was finished with this answer
  abbrev pub LooksOrFinishes : KernelView C → Bool → Account → LockView → Option (Result Reply Refusal) → Account → LockView → Type 0
  LooksOrFinishes first keeps a l r a' l' = MatchOption r (Looks first a l a' l') (λ answer. Answered first.limit a (Finish keeps) answer a')

  -- of the caller only its account changes, and that by looks
  abbrev pub Looked : CallerState C → CallerState C → Type 0
  Looked old new = (new ≡ record old { account = new.account; lock = new.lock }) × Looks old.machine.first old.account old.lock new.account new.lock

  -- the end of a wait, at which the thread keeps its stage where the caller holds a stax or a mutex
  abbrev pub finish_of : CallerState C → Call
  finish_of c = Finish (keeps_stage (holds_stax c.staxes) (holds_mutex c.mutexes))

  -- The caller looked until its wait was over, and finished it then: that was the answer, and isn't Again
  pub record WaitsOut (limit : ℕ) (old : CallerState C) (r : Result Reply Refusal) (new : CallerState C) : Type 0 where
    pub over : CallerState C
    pub looked : Looked old over
    pub finished : Called limit over (finish_of over) r new
    pub told : r ≢ Err Again

  -- rule: A call that waits for an element makes one `Begin..`. If that began a wait it looks at the kernel, without
  --   entries, until the wait is over, and in that take makes the `Finish` whose answer it gives, never `Again` or
  --   `CoreBusy`. Want of room at the end leaves the wait unfinished.
  --   also: Waitings.{WaitsOut, Look}
  --   clauses: Machine::{get_sem, wait_flags, read_xbuf, write_xbuf}
  --   rows: machine_1; machine_3; full_history_leaves_a_wait; wait_stops_at_its_beginning_without_memory;
  --   wait_stops_at_its_end_in_a_full_history; wait_stops_at_its_end_without_memory
  -- The caller called this, and where that began a wait, it waited it out, which gave the answer; else the call's answer is the answer
  pub record Waits (limit : ℕ) (old : CallerState C) (begin : Call) (r : Result Reply Refusal) (new : CallerState C) : Type 0 where
    pub answer : Result Reply Refusal
    pub begun : CallerState C
    pub called : CalledAtLast limit old begin answer begun
    pub ends : MatchBool (begins_wait answer) (WaitsOut limit begun r new) ((r ≡ answer) × (new ≡ begun))
