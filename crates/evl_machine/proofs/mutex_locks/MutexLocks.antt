-- When a call on a mutex finds the history full.
use Rattle.std.proofs.Common.{◌≡◌, ℕ, ◌==◌, ◌&&◌, ◌≤◌, arith, nat_lt, not, if◌then◌else◌, List, length, Bool, true, false, true≢false, Option, Some, None, is_some, Result, Ok, Err, IfErr, MatchBool, MatchOption, slice_get, refl, sym, ap, ◌∙◌, subst, inl, inr, ⊎_elim}
use Rattle.std.specs.Option.{option_map_or}
use Rattle.std.proofs.lemmas.Bool.Decides.{nat_tests}
use Rattle.std.proofs.lemmas.Option.{none-some}
use Rattle.evl_base.specs.declared.mutex_kind.MutexKind.{MutexKind}
use Rattle.evl_base.specs.declared.numbers.MutexId.{MutexId}
use Rattle.evl_base.specs.declared.refusal.Refusal.{Refusal}
use Rattle.evl_base.specs.declared.refusal.Refusal.TheVariants.{Busy, CoreBusy, Deadlock, HistoryFull, Limit, NotOwner, Unknown, WrongStage}
use Rattle.evl_base.specs.declared.stage.Stage.{Stage}
use Rattle.evl_sched.specs.Threads.{is_oob}
use Rattle.evl_kernel.specs.histories.Histories.{History}
use Rattle.evl_kernel.specs.state.KernelViews.{KernelView}
use Rattle.evl_words.specs.MutexCalls.{MutexSeatState}
use Rattle.evl_words.specs.declared.mutex.MutexPass.{MutexPass}
use Rattle.evl_machine.specs.declared.locking.Begun.{Begun}
use Rattle.evl_machine.specs.declared.locking.Begun.TheVariants.{Locked}
use Rattle.evl_machine.specs.declared.unfinished.Unfinished.{Unfinished}
use Rattle.evl_machine.specs.callers.Actors.{ActorState, SeatedActor, acting}
use Rattle.evl_machine.specs.callers.Callers.{IsResting, caller_by, machine_by}
use Rattle.evl_core.specs.rule.Known.{seen, lock_in}
use Rattle.evl_core.specs.words.AtSeats.{AtSeat}
use Rattle.evl_core.specs.rule.Ceilings.{has_ceiling}
use Rattle.evl_machine.specs.callers.Handles.{CallerState, MachineState}
use Rattle.evl_core.specs.accounts.Seats.{account_of}
use Rattle.evl_machine.specs.mutex_locks.Locking.{Begins, EntersNone, Finishes, GoesAlong, IsNotFull, LocksRaised, Releases}
use Rattle.evl_core.specs.accounts.KernelCalls.{FindsNoRoom}
use Rattle.evl_machine.specs.mutex_locks.MutexLocks.{BeginsToLock, MutexCall, kind_of, kinds_of, lock_refusal, own_lock_refusal, spend_refusal}
use Rattle.evl_core.specs.words.MutexSeats.{depth_at, Tries, TriesMutex, IsOfMutex, is_owner, is_recursive, mutex_refusal, owner_refusal, pass_refusal}
use Rattle.evl_machine.specs.calls.Visits.{FullOnly, Visits, actor_of}
use Rattle.evl_machine.proofs.callers.Visits.{same_actor}

abbrev told_full : Result MutexPass Refusal
told_full = Err HistoryFull

pub none_of : (n : ℕ) → n ≤ 0 → nat_lt 0 n ≡ false
none_of n none = grind (arith, nat_tests)

module _ {C : Type 0} where
  -- the history that was given back is full, and no longer than it was
  abbrev pub LeavesFull : KernelView C → KernelView C → Type 0
  LeavesFull k k' = length k'.history.entries ≡ k.limit

  -- what a caller is refused by what it has itself is what its actor is refused
  pub own_lock_is : (x : SeatedActor C) (old : CallerState C) (kind : Option MutexKind) (m : MutexId) (o : Option Refusal) → caller_by x ≡ old → IsResting x → kind ≡ kind_of old m → lock_refusal kind x.wait x.stage (depth_at (acting x).mutexes m.0) ≡ o → own_lock_refusal old m ≡ o
  own_lock_is x old kind m o was rests same is =
      let actor : actor_of old ≡ acting x = ap actor_of (sym was) ∙ same_actor (machine_by x) (account_of (seen x.me)) (lock_in x.me.0) (acting x) rests.0.own rests.0.account rests.1 in
      (λ i. lock_refusal (sym same i) (actor i).wait (actor i).stage (depth_at (actor i).mutexes m.0)) ∙ is

  -- a lock that begins with the kernel, where the caller refuses nothing and doesn't have the mutex
  pub begins_by_kernel : (old new : CallerState C) (x : ActorState) (kind : Option MutexKind) (mutex : MutexId) (until : Option ℕ) (r : Result Begun Refusal) (ceiling : Bool) → actor_of old ≡ x → kind ≡ kind_of old mutex
      → lock_refusal kind x.wait x.stage (depth_at x.mutexes mutex.0) ≡ None → nat_lt 0 (depth_at x.mutexes mutex.0) ≡ false → ceiling ≡ has_ceiling kind
      → Visits (r ≡ Err CoreBusy) old (λ a k a' k'. Begins ceiling a k mutex until r a' k') new → BeginsToLock old mutex until r new
  begins_by_kernel old new x kind mutex until r ceiling is same free fresh raises visits =
      let nothing : own_lock_refusal old mutex ≡ None = (λ i. lock_refusal (sym same i) (is i).wait (is i).stage (depth_at (is i).mutexes mutex.0)) ∙ free in
      let first : nat_lt 0 (depth_at old.mutexes mutex.0) ≡ false = ap (λ (a : ActorState). nat_lt 0 (depth_at a.mutexes mutex.0)) is ∙ fresh in
      by (own_lock_refusal old mutex) (nat_lt 0 (depth_at old.mutexes mutex.0)) nothing first (subst (λ b. Visits (r ≡ Err CoreBusy) old (λ a k a' k'. Begins b a k mutex until r a' k') new) (raises ∙ ap has_ceiling same) visits)
    where
      visiting : Type 0
      visiting = Visits (r ≡ Err CoreBusy) old (λ a k a' k'. Begins (has_ceiling (kind_of old mutex)) a k mutex until r a' k') new

      by : (o : Option Refusal) (b : Bool) → o ≡ None → b ≡ false → visiting
          → MatchOption o (MatchBool b ((pass : MutexPass) × (r ≡ Ok (Locked pass)) × MutexCall old (λ was is. TriesMutex (kinds_of old) was mutex.0 (Ok pass) is) new) visiting) (λ refusal. (r ≡ Err refusal) × (new ≡ old))
      by None false nothing first visits = visits
      by None true nothing first visits = absurd (true≢false first)
      by (Some refusal) b nothing first visits = absurd (none-some refusal (sym nothing))
