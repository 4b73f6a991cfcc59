-- The deeds of a caller that waits for a mutex, and of one that gives a mutex back however long others have the kernel.
use Rattle.std.specs.Prelude.{◌≡◌, ◌≢◌, ℕ, List, [], ◌∷◌, Bool, true, false, Option, Result, Ok, Err, IfErr}
use Rattle.evl_base.specs.declared.numbers.MutexId.{MutexId}
use Rattle.evl_base.specs.declared.refusal.Refusal.{Refusal}
use Rattle.evl_base.specs.declared.refusal.Refusal.TheVariants.{Again, CoreBusy}
use Rattle.evl_words.specs.declared.mutex.MutexPass.{MutexPass}
use Rattle.evl_machine.specs.declared.locking.Begun.{Begun}
use Rattle.evl_machine.specs.declared.locking.Begun.TheVariants as begun
use Rattle.evl_machine.specs.declared.locking.Ended.{Ended}
use Rattle.evl_machine.specs.declared.locking.Ended.TheVariants as ended
use Rattle.evl_machine.specs.callers.Handles.{CallerState}
use Rattle.evl_machine.specs.mutex_locks.MutexLocks.{BeginsToLock, FinishesToLock, TriesToUnlock}

-- a refusal that may pass: another caller has the kernel, or the mutex is on its way to somebody
abbrev pub may_pass : Refusal → Bool
may_pass CoreBusy = true
may_pass Again = true
may_pass refusal = false

abbrev pub passes : {T : Type 0} → Result T Refusal → Bool
passes (Ok answer) = false
passes (Err refusal) = may_pass refusal

module _ {C : Type 0} where
  -- calls of one kind whose refusals may pass, the last one first, each with the caller before it
  abbrev pub Repeats : {T : Type 0} → (CallerState C → Result T Refusal → CallerState C → Type 0) → CallerState C → List (Refusal × CallerState C) → CallerState C → Type 0
  Repeats does old [] c = c ≡ old
  Repeats does old ((refusal, before) ∷ earlier) c = Repeats does old earlier before × (may_pass refusal ≡ true) × does before (Err refusal) c

  -- a call is made until its answer doesn't pass, and that is the answer
  pub record Lasts {T : Type 0} (call : CallerState C → Result T Refusal → CallerState C → Type 0) (old : CallerState C) (r : Result T Refusal) (new : CallerState C) : Type 0 where
    pub refused : List (Refusal × CallerState C)
    pub last : CallerState C
    pub repeats : Repeats call old refused last
    pub answers : call last r new
    pub stays : passes r ≡ false

  -- This is the lock's end where it has begun: the caller has the mutex, or waits and finishes its wait
  abbrev pub EndsLock : Result Begun Refusal → CallerState C → Result Ended Refusal → CallerState C → Type 0
  EndsLock (Ok (begun.Locked pass)) found r new = (r ≡ Ok (ended.Locked pass)) × (new ≡ found)
  EndsLock (Ok begun.Waiting) found r new = Lasts FinishesToLock found r new
  EndsLock (Err refusal) found r new = (r ≡ Err refusal) × (new ≡ found)

  -- rule: `lock_mutex` repeats `begin_lock_mutex`, then `finish_lock_mutex`, while they answer `CoreBusy` or `Again`;
  --   `unlock_mutex` repeats `try_unlock_mutex` while that is `CoreBusy`.
  --   also: MutexWaits.UnlocksAtLast
  --   clauses: Machine::{lock_mutex, unlock_mutex}
  --   rows: machine_1; racing_callers_6; racing_callers_7; lock_stops_at_its_finish
  -- refusals: lock_mutex, unlock_mutex
  --   also: MutexWaits.UnlocksAtLast
  --   clauses: Machine::lock_mutex: lasts
  -- A lock is begun, and where the caller has to wait, its wait is finished once it is over
  abbrev pub WaitsForMutex : CallerState C → MutexId → Option ℕ → Result Ended Refusal → CallerState C → Type 0
  WaitsForMutex old mutex until r new = (answer : Result Begun Refusal) × (found : CallerState C) × Lasts (λ c s c'. BeginsToLock c mutex until s c') old answer found × EndsLock answer found r new

  -- unlockings that found the kernel taken, the last one first, each with the pass that was spent and the caller before it
  abbrev pub FindsBusy : CallerState C → MutexPass → List (MutexPass × CallerState C) → MutexPass → CallerState C → Type 0
  FindsBusy old pass [] back c = (c ≡ old) × (back ≡ pass)
  FindsBusy old pass ((spent, before) ∷ earlier) back c = FindsBusy old pass earlier spent before × TriesToUnlock before spent (Err (CoreBusy, back)) c

  -- a pass is spent until the kernel isn't found taken
  pub record UnlocksAtLast (old : CallerState C) (pass : MutexPass) (r : Result (Unit {0}) (Refusal × MutexPass)) (new : CallerState C) : Type 0 where
    pub refused : List (MutexPass × CallerState C)
    pub spent : MutexPass
    pub last : CallerState C
    pub repeats : FindsBusy old pass refused spent last
    pub answers : TriesToUnlock last spent r new
    pub stays : IfErr r (λ e. e.0 ≢ CoreBusy)
