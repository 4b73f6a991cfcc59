-- The deeds on a mutex of a caller that has the kernel: steps of the mutex's word, and the calls of the kernel that go with them.
use Rattle.std.specs.Prelude.{◌≡◌, ◌≢◌, ◌⊎◌, ◌+◌, ◌≤◌, ℕ, List, Bool, true, false, length, map, slice_get, Result, Ok, Err, Option, Some, None}
use Rattle.evl_base.specs.declared.call.Call.{Call}
use Rattle.evl_base.specs.declared.call.Call.TheVariants.{Claim as AsksToWait, Release, Raise, Finish}
use Rattle.evl_base.specs.declared.entry.Entry.{Entry}
use Rattle.evl_base.specs.declared.mutex_kind.MutexKind.{MutexKind}
use Rattle.evl_base.specs.declared.numbers.MutexId.{MutexId}
use Rattle.evl_base.specs.declared.numbers.ThreadId.{ThreadId}
use Rattle.evl_base.specs.declared.refusal.Refusal.{Refusal}
use Rattle.evl_base.specs.declared.refusal.Refusal.TheVariants.{Again}
use Rattle.evl_base.specs.declared.reply.Reply.{Reply}
use Rattle.evl_base.specs.declared.reply.Reply.TheVariants.{Begun as Began, Handed, TimedOut as DeadlineCame}
use Rattle.evl_kernel.specs.histories.Histories.{IsLegal}
use Rattle.evl_kernel.specs.state.KernelViews.{KernelView, AddsEntry, makes_entry}
use Rattle.evl_kernel.specs.waiting.Waits.{has_ended, is_timeout}
use Rattle.evl_words.specs.declared.mutex.Claim.TheVariants.{Won, Queued}
use Rattle.evl_words.specs.declared.mutex.MutexPass.{MutexPass}
use Rattle.evl_words.specs.MutexCalls.{MutexSeatState}
use Rattle.evl_machine.specs.declared.locking.Begun.{Begun}
use Rattle.evl_machine.specs.declared.locking.Begun.TheVariants as begun
use Rattle.evl_machine.specs.declared.locking.Ended.{Ended}
use Rattle.evl_machine.specs.declared.locking.Ended.TheVariants as ended
use Rattle.evl_core.specs.accounts.Accounts.{GoesOn, MadeBy}
use Rattle.evl_machine.specs.callers.Actors.{ActorState, AreHeldAt, Suits, keeps_stage}
use Rattle.evl_core.specs.words.AtSeats.{AtSeat}
use Rattle.evl_core.specs.words.Homes.{mutex_home}
use Rattle.evl_core.specs.rule.Known.{ComesFrom}
use Rattle.evl_core.specs.words.MutexSeats.{AcceptsSo, Claims, ForgetsSo, Frees, Offers, Settles, TriesMutex, holds_mutex}
use Rattle.evl_machine.specs.stax_locks.StaxSeats.{holds_stax}
use Rattle.evl_core.specs.accounts.KernelCalls.{FindsNoRoom}

-- each of these seats is one of so many
abbrev pub HaveSeats : ℕ → List MutexSeatState → Type 0
HaveSeats threads seats = (i : ℕ) (s : MutexSeatState) → slice_get seats i ≡ Some s → s.view.held.seats ≡ threads

-- the word is given to the next owner, and marked where more wait, or to nobody
abbrev pub GivesTo : Option ThreadId → Bool → MutexSeatState → MutexSeatState → Type 0
GivesTo (Some next) more was is = Offers next.0 more was is
GivesTo None more was is = Frees was is

module _ {C : Type 0} where
  -- the history has room for one more entry
  abbrev pub IsNotFull : KernelView C → Type 0
  IsNotFull k = length k.history.entries ≢ k.limit

  -- the history has just this call more, or nothing more
  abbrev pub EntersOne : KernelView C → ℕ → Call → Result Reply Refusal → KernelView C → Type 0
  EntersOne k thread c r k' = (makes_entry r ≡ true) × AddsEntry k.history thread c r k'.history

  abbrev pub EntersNone : KernelView C → KernelView C → Type 0
  EntersNone k k' = k'.history ≡ k.history

  -- The kernel goes on by calls of this thread alone, and the caller with it: it acts for the same thread, has the same seats at the staxes, and each seat at a mutex stays where it belongs
  pub record GoesAlong (a : ActorState) (k : KernelView C) (a' : ActorState) (k' : KernelView C) : Type 0 where
    pub thread : a'.thread ≡ a.thread
    pub staxes : a'.staxes ≡ a.staxes
    pub homes : map mutex_home a'.mutexes ≡ map mutex_home a.mutexes
    pub numbers : map (λ s. s.number) a'.mutexes ≡ map (λ s. s.number) a.mutexes
    pub held : AreHeldAt a'.stage a'.staxes
    pub suits : Suits a' k'.history
    pub added : List Entry
    pub longer : GoesOn k.history added k'.history
    pub own : MadeBy a.thread.0 added
    pub comes : ComesFrom k k'
    pub legal : IsLegal k'.history
    pub room : k.room ≤ k'.room + 1

  -- the kernel accepts a call
  abbrev pub Accepts : KernelView C → ℕ → Call → KernelView C → Type 0
  Accepts k thread c k' = (reply : Reply) × EntersOne k thread c (Ok reply) k'

  -- rule: With the kernel in hand a taken mutex with a ceiling is raised. A release gives the word to whom the kernel
  --   names, with the mark if more wait, or to nobody. A lock begins with a claim, for which the kernel learns the
  --   owner that the word named, and ends with its own accept and `Finish`, or with a forgetting and a `Finish` that
  --   timed out.
  --   also: Locking.{Releases, Begins, Finishes}; MutexLocks.{FinishesToLock, TriesToUnlock, UnlocksFast}
  --   clauses: Machine::{try_lock_mutex, begin_lock_mutex, unlock_mutex_fast, try_unlock_mutex, finish_lock_mutex}
  --   rows: contended_mutex; racing_callers_8; ceiling_is_tried_in_a_full_history; ceiling_is_tried_without_memory;
  --   taken_ceiling_is_tried
  -- rule: The kernel accepts the `Raise` of a mutex with a ceiling that was taken.
  --   also: Locking.{RaisesIf, Accepts}
  --   rows: ceiling_mutex
  -- rule: A call refused for want of room has made no step of the word under the kernel.
  --   also: Locking.{FailsToBegin, FailsToFinish, IsNotFull}
  --   rows: racing_callers_1; ceiling_is_tried_while_the_core_is_held; ceiling_is_unlocked_in_a_full_history;
  --   ceiling_is_unlocked_while_the_core_is_held; ceiling_is_unlocked_without_memory;
  --   contended_unlock_in_a_full_history; contended_unlock_while_the_core_is_held; contended_unlock_without_memory;
  --   lock_begins_while_the_core_is_held; lock_begins_without_memory
  -- The try of a mutex with a ceiling. A try that took it is reported to the kernel, which accepts that; a refused one isn't entered. There was room before the word was tried
  abbrev pub LocksRaised : List MutexKind → ActorState → KernelView C → MutexId → Result MutexPass Refusal → ActorState → KernelView C → Type 0
  LocksRaised kinds a k mutex (Ok pass) a' k' = TriesMutex kinds a.mutexes mutex.0 (Ok pass) a'.mutexes × Accepts k a.thread.0 (Raise mutex) k'
  LocksRaised kinds a k mutex (Err refusal) a' k' = EntersNone k k' × (((a'.mutexes ≡ a.mutexes) × FindsNoRoom k refusal) ⊎ (IsNotFull k × TriesMutex kinds a.mutexes mutex.0 (Err refusal) a'.mutexes))

  -- rule: The kernel refuses the `Release` of an unlocking only for want of room; then the pass comes back.
  --   also: KernelCalls.FindsNoRoom
  -- The kernel hands a mutex on, and the word is given to whom it names. It refuses that for want of room alone: then the pass comes back and the word stays
  abbrev pub Releases : ActorState → KernelView C → MutexPass → Result (Unit {0}) (Refusal × MutexPass) → ActorState → KernelView C → Type 0
  Releases a k pass (Ok done) a' k' = (next : Option ThreadId) × (more : Bool) × EntersOne k a.thread.0 (Release pass.mutex) (Ok (Handed next more)) k' × AtSeat pass.mutex.0 a.mutexes a'.mutexes (GivesTo next more)
  Releases a k pass (Err (refusal, back)) a' k' = (back ≡ pass) × (a'.mutexes ≡ a.mutexes) × EntersNone k k' × FindsNoRoom k refusal

  -- a mutex that was won is raised where it has a ceiling, which the kernel accepts
  abbrev pub RaisesIf : Bool → KernelView C → ℕ → MutexId → KernelView C → Type 0
  RaisesIf true k thread mutex k' = Accepts k thread (Raise mutex) k'
  RaisesIf false k thread mutex k' = EntersNone k k'

  -- rule: A refused `Claim` leaves the claim mark: the owner's fast unlock is then `Busy`; the other unlock unlocks.
  --   also: MutexLocks.{FastAnswer, UnlocksAtWord}
  --   rows: racing_callers_3; refused_claim_leaves_its_mark
  -- rule: No claim finds another winner; the word refuses no wait that is over.
  --   also: Locking.FailsToFinish; Ties.{OwnerTie, peopled, OfferTie}
  -- Why a lock doesn't begin: there is no room, or the kernel refuses the wait, and the claim stays
  abbrev pub FailsToBegin : ActorState → KernelView C → MutexId → Option ℕ → Refusal → ActorState → KernelView C → Type 0
  FailsToBegin a k mutex until refusal a' k' =
      (EntersNone k k' × (a'.mutexes ≡ a.mutexes) × FindsNoRoom k refusal)
      ⊎ ((owner : ThreadId) × AtSeat mutex.0 a.mutexes a'.mutexes (Claims (Queued owner)) × EntersOne k a.thread.0 (AsksToWait mutex owner until) (Err refusal) k')

  -- A lock begins with a claim. Won, it is settled, and raised at a ceiling; queued, the kernel has accepted the wait for the owner that the word named
  abbrev pub Begins : Bool → ActorState → KernelView C → MutexId → Option ℕ → Result Begun Refusal → ActorState → KernelView C → Type 0
  Begins ceiling a k mutex until (Ok (begun.Locked pass)) a' k' =
      (won : List MutexSeatState) × AtSeat mutex.0 a.mutexes won (Claims Won) × AtSeat mutex.0 won a'.mutexes (Settles pass) × RaisesIf ceiling k a.thread.0 mutex k'
  Begins ceiling a k mutex until (Ok begun.Waiting) a' k' =
      (owner : ThreadId) × AtSeat mutex.0 a.mutexes a'.mutexes (Claims (Queued owner)) × EntersOne k a.thread.0 (AsksToWait mutex owner until) (Ok Began) k'
  Begins ceiling a k mutex until (Err refusal) a' k' = FailsToBegin a k mutex until refusal a' k'

  -- rule: The `Finish` of a wait for a mutex keeps the stage if a stax or mutex is held then.
  -- the thread's wait is finished, and it keeps its stage where a stax or a mutex is held then
  abbrev pub EndsWait : ActorState → KernelView C → Reply → ActorState → KernelView C → Type 0
  EndsWait a k ended a' k' = EntersOne k a.thread.0 (Finish (keeps_stage (holds_stax a.staxes) (holds_mutex a'.mutexes))) (Ok ended) k'

  -- rule: A finish while the wait goes on is `Again`, without an entry. Once it is over only want of room refuses it;
  --   every refusal leaves the wait and the word.
  --   also: Visits.FindsTaken
  --   rows: racing_callers_2; finish_in_a_full_history; finish_while_the_core_is_held; finish_without_memory;
  --   late_finish_in_a_full_history; late_finish_while_the_core_is_held; late_finish_without_memory;
  --   wait_is_finished_while_the_core_is_held; second_waiter_comes_while_the_core_is_held
  -- Why a wait for a mutex isn't finished: it goes on, or it is over and there is no room. The word stays, and the kernel has no entry of it
  abbrev pub FailsToFinish : ActorState → KernelView C → Refusal → ActorState → Type 0
  FailsToFinish a k refusal a' =
      (a'.mutexes ≡ a.mutexes)
      × (((refusal ≡ Again) × (has_ended k.history.state a.thread.0 ≡ false)) ⊎ ((has_ended k.history.state a.thread.0 ≡ true) × FindsNoRoom k refusal))

  -- A wait for a mutex is finished: the word is accepted before the kernel ends it, and where the deadline came first it is forgotten
  abbrev pub Finishes : ActorState → KernelView C → MutexId → Result Ended Refusal → ActorState → KernelView C → Type 0
  Finishes a k mutex (Ok (ended.Locked pass)) a' k' = AtSeat mutex.0 a.mutexes a'.mutexes (AcceptsSo (Ok pass)) × ((reply : Reply) × (is_timeout reply ≡ false) × EndsWait a k reply a' k')
  Finishes a k mutex (Ok ended.TimedOut) a' k' = AtSeat mutex.0 a.mutexes a'.mutexes (ForgetsSo (Ok tt)) × EndsWait a k DeadlineCame a' k'
  Finishes a k mutex (Err refusal) a' k' = EntersNone k k' × FailsToFinish a k refusal a'
