-- A mutex call's effect on its caller.
use Rattle.std.specs.Prelude.{◌≡◌, ◌⊎◌, ℕ, ◌==◌, ◌&&◌, List, Bool, nat_lt, if◌then◌else◌, Option, Some, None, is_some, Result, Ok, Err, MatchBool, MatchOption, slice_get}
use Rattle.std.specs.Option.{option_map_or, option_or}
use Rattle.evl_base.specs.declared.mutex_kind.MutexKind.{MutexKind}
use Rattle.evl_base.specs.declared.numbers.MutexId.{MutexId}
use Rattle.evl_base.specs.declared.refusal.Refusal.{Refusal}
use Rattle.evl_base.specs.declared.refusal.Refusal.TheVariants.{Busy, CoreBusy, Invalid, Unknown, WrongStage}
use Rattle.evl_base.specs.declared.stage.Stage.{Stage}
use Rattle.evl_sched.specs.Threads.{is_oob}
use Rattle.evl_words.specs.MutexCalls.{MutexSeatState}
use Rattle.evl_words.specs.declared.mutex.MutexPass.{MutexPass}
use Rattle.evl_words.specs.declared.mutex.Unlock.{Unlock}
use Rattle.evl_words.specs.declared.mutex.Unlock.TheVariants.{Done, Claimed}
use Rattle.evl_words.specs.MutexWorld.{tries, unlocks}
use Rattle.evl_kernel.specs.state.KernelViews.{KernelView}
use Rattle.evl_core.specs.worlds.OneWorld.{OneKind, on_word}
use Rattle.evl_machine.specs.declared.locking.Begun.{Begun}
use Rattle.evl_machine.specs.declared.locking.Begun.TheVariants.{Locked}
use Rattle.evl_machine.specs.declared.locking.Ended.{Ended}
use Rattle.evl_machine.specs.declared.unfinished.Unfinished.{Unfinished}
use Rattle.evl_machine.specs.declared.unfinished.Unfinished.TheVariants.{Mutex}
use Rattle.evl_machine.specs.calls.Calls.{stage_of_caller, wait_of_caller}
use Rattle.evl_core.specs.rule.Ceilings.{has_ceiling}
use Rattle.evl_machine.specs.callers.Handles.{CallerState}
use Rattle.evl_machine.specs.callers.OneSteps.{StepsInOne}
use Rattle.evl_machine.specs.mutex_locks.Locking.{Begins, Finishes, LocksRaised, Releases}
use Rattle.evl_core.specs.words.MutexSeats.{TriesMutex, UnlocksMutex, depth_at, owner_refusal, unlock_refusal}
use Rattle.evl_machine.specs.calls.Visits.{Visits}

-- The refusals of a lock by what the caller has itself: a wait that it has not finished, a mutex that isn't on the board, the in-band stage; and an owner that the mutex doesn't nest for, or that has it 255 times
abbrev pub lock_refusal : Option MutexKind → Option Unfinished → Stage → ℕ → Option Refusal
lock_refusal kind wait stage depth = if is_some wait then Some Busy else option_map_or (λ k. if is_oob stage then owner_refusal k depth else Some WrongStage) kind (Some Unknown)

-- what refuses to spend a pass by what the caller has itself: a wait that it has not finished, or a pass that isn't its own
abbrev pub spend_refusal : Option Unfinished → List MutexSeatState → MutexPass → Option Refusal
spend_refusal wait seats pass = if is_some wait then Some Busy else unlock_refusal seats pass

-- without the kernel no pass of a mutex with a ceiling is spent
abbrev pub fast_refusal : Option MutexKind → Option Unfinished → List MutexSeatState → MutexPass → Option Refusal
fast_refusal kind wait seats pass = option_or (spend_refusal wait seats pass) (if has_ceiling kind then Some Busy else None)

-- whether a mutex that is held so often is handed on at once when a pass of it is spent: it has a ceiling, and is held once
abbrev pub is_handed_on : Option MutexKind → ℕ → Bool
is_handed_on kind depth = has_ceiling kind && (depth == 1)

-- the mutex for which a caller waits
abbrev pub awaited_mutex : Option Unfinished → Option MutexId
awaited_mutex (Some (Mutex mutex)) = Some mutex
awaited_mutex wait = None

-- a word's answer as a call without the kernel says it: a pass comes back where others claim the mutex
abbrev pub FastAnswer : Result (Unit {0}) (Refusal × MutexPass) → Unlock → Type 0
FastAnswer r Done = r ≡ Ok tt
FastAnswer r (Claimed back) = r ≡ Err (Busy, back)

module _ {C : Type 0} where
  -- the kinds of the machine's mutexes
  abbrev pub kinds_of : CallerState C → List MutexKind
  kinds_of c = c.machine.first.history.board.mutexes.items

  -- of the caller only its seats at the mutexes change, and by this
  abbrev pub MutexCall : CallerState C → (List MutexSeatState → List MutexSeatState → Type 0) → CallerState C → Type 0
  MutexCall old does new = (new ≡ record old { mutexes = new.mutexes }) × does old.mutexes new.mutexes

  -- the same, and where a step was made, that was this event of the one world
  abbrev pub WordCall : Type 0 → OneKind (KernelView C) → CallerState C → (List MutexSeatState → List MutexSeatState → Type 0) → CallerState C → Type 0
  WordCall stepped kind old does new = (new ≡ record old { mutexes = new.mutexes }) × does old.mutexes new.mutexes × (stepped → StepsInOne kind old new)

  abbrev pub kind_of : CallerState C → MutexId → Option MutexKind
  kind_of c mutex = slice_get (kinds_of c) mutex.0

  -- refusals: try_lock_mutex, begin_lock_mutex, finish_lock_mutex
  --   also: MutexLocks.{TriesToLock, BeginsToLock, FinishesToLock}
  abbrev pub own_lock_refusal : CallerState C → MutexId → Option Refusal
  own_lock_refusal c mutex = lock_refusal (kind_of c mutex) (wait_of_caller c) (stage_of_caller c) (depth_at c.mutexes mutex.0)

  -- rule: A try and a begin by a recursive mutex's owner get it once more, without a step.
  --   also: MutexSeats.Gains; MutexLocks.BeginsToLock
  --   rows: nesting
  -- A try of a mutex. The kernel is taken for a mutex with a ceiling alone; another one is tried at its word, unless the caller has it
  abbrev pub TriesToLock : CallerState C → MutexId → Result MutexPass Refusal → CallerState C → Type 0
  TriesToLock old mutex r new = MatchOption (own_lock_refusal old mutex)
      (MatchBool (has_ceiling (kind_of old mutex))
      (Visits (r ≡ Err CoreBusy) old (λ a k a' k'. LocksRaised (kinds_of old) a k mutex r a' k') new)
      (WordCall (depth_at old.mutexes mutex.0 ≡ 0) (on_word mutex.0 tries) old (λ was is. TriesMutex (kinds_of old) was mutex.0 r is) new))
      (λ refusal. (r ≡ Err refusal) × (new ≡ old))

  -- The beginning of a lock. An owner has the mutex once more, without the kernel
  abbrev pub BeginsToLock : CallerState C → MutexId → Option ℕ → Result Begun Refusal → CallerState C → Type 0
  BeginsToLock old mutex until r new = MatchOption (own_lock_refusal old mutex)
      (MatchBool (nat_lt 0 (depth_at old.mutexes mutex.0))
      ((pass : MutexPass) × (r ≡ Ok (Locked pass)) × MutexCall old (λ was is. TriesMutex (kinds_of old) was mutex.0 (Ok pass) is) new)
      (Visits (r ≡ Err CoreBusy) old (λ a k a' k'. Begins (has_ceiling (kind_of old mutex)) a k mutex until r a' k') new))
      (λ refusal. (r ≡ Err refusal) × (new ≡ old))

  -- the end of a wait for a mutex, where the caller waits for one
  abbrev pub FinishesToLock : CallerState C → Result Ended Refusal → CallerState C → Type 0
  FinishesToLock old r new = MatchOption (awaited_mutex (wait_of_caller old))
      ((r ≡ Err Invalid) × (new ≡ old))
      (λ mutex. Visits (r ≡ Err CoreBusy) old (λ a k a' k'. Finishes a k mutex r a' k') new)

  -- one pass of a caller's is spent, the last one by a step of the word
  abbrev pub SpendsAtWord : CallerState C → MutexPass → Unlock → CallerState C → Type 0
  SpendsAtWord old pass told new = WordCall (depth_at old.mutexes pass.mutex.0 ≡ 1) (on_word pass.mutex.0 unlocks) old (λ was is. UnlocksMutex was pass (Ok told) is) new

  -- refusals: unlock_mutex_fast, try_unlock_mutex
  --   also: MutexLocks.TriesToUnlock
  -- a pass is spent at the word alone, and comes back where others claim the mutex
  abbrev pub UnlocksFast : CallerState C → MutexPass → Result (Unit {0}) (Refusal × MutexPass) → CallerState C → Type 0
  UnlocksFast old pass r new = MatchOption (fast_refusal (kind_of old pass.mutex) (wait_of_caller old) old.mutexes pass)
      ((told : Unlock) × FastAnswer r told × SpendsAtWord old pass told new)
      (λ refusal. (r ≡ Err (refusal, pass)) × (new ≡ old))

  -- the kernel hands the mutex of a pass on, and the word follows
  abbrev pub HandsOn : CallerState C → MutexPass → Result (Unit {0}) (Refusal × MutexPass) → CallerState C → Type 0
  HandsOn old pass r new = Visits (r ≡ Err (CoreBusy, pass)) old (λ a k a' k'. Releases a k pass r a' k') new

  -- rule: An unlock that finds a claim has made the entry `Unlock`, `Claimed` before it takes the kernel; that entry
  --   changes nothing.
  --   rows: racing_callers_2
  -- the word is unlocked, or it is claimed and its mutex is handed on
  abbrev pub UnlocksAtWord : CallerState C → MutexPass → Result (Unit {0}) (Refusal × MutexPass) → CallerState C → Type 0
  UnlocksAtWord old pass r new =
      ((r ≡ Ok tt) × SpendsAtWord old pass Done new)
      ⊎ ((found : CallerState C) × SpendsAtWord old pass (Claimed pass) found × HandsOn found pass r new)

  -- A pass is spent. A mutex with a ceiling that is held once is handed on at once
  abbrev pub TriesToUnlock : CallerState C → MutexPass → Result (Unit {0}) (Refusal × MutexPass) → CallerState C → Type 0
  TriesToUnlock old pass r new = MatchOption (spend_refusal (wait_of_caller old) old.mutexes pass)
      (MatchBool (is_handed_on (kind_of old pass.mutex) (depth_at old.mutexes pass.mutex.0)) (HandsOn old pass r new) (UnlocksAtWord old pass r new))
      (λ refusal. (r ≡ Err (refusal, pass)) × (new ≡ old))
