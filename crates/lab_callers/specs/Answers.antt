-- The texts of what the machine's calls answer, of which call a step's answer is, and what a step shows and leaves to names.
use Rattle.std.specs.Prelude.{◌≡◌, ℕ, Option, Some, None, Bool, true, false, List, String, codes, Result, Ok, Err, string_bytes}
use Rattle.std.specs.declared.alloc.Global.{Global}
use Rattle.evl_base.specs.Refusal.{name_of}
use Rattle.evl_base.specs.Reply.{outcome_text}
use Rattle.evl_base.specs.declared.call.Call.{Call}
use Rattle.evl_base.specs.declared.numbers.MutexId.{MutexId}
use Rattle.evl_base.specs.declared.numbers.StaxId.{StaxId}
use Rattle.evl_base.specs.declared.numbers.ThreadId.{ThreadId}
use Rattle.evl_base.specs.declared.refusal.Refusal.{Refusal}
use Rattle.evl_base.specs.declared.refusal.Refusal.TheVariants.{CoreBusy}
use Rattle.evl_base.specs.declared.reply.Reply.{Reply}
use Rattle.lab_callers.specs.Crews.{CallsKernel, CrewState, GivesCore, Steps, TakesCore}
use Rattle.lab_callers.specs.Holdings.{Holdings, awaited_mutex, is_held, lock_begun, lock_ended, mutex_given, mutex_left, stax_given, stax_left, with_mutexes, with_staxes}
use Rattle.lab_callers.specs.Names.{TakesPass}
use Rattle.lab_callers.specs.declared.views.Shows.{Shows}
use Rattle.lab_callers.specs.declared.views.Shows.TheVariants as shows
use Rattle.lab_callers_text.specs.declared.acts.Act.{Act}
use Rattle.lab_callers_text.specs.declared.acts.Act.TheVariants as act
use Rattle.evl_machine.specs.calls.Calls.{stage_of_caller}
use Rattle.evl_machine.specs.callers.Handles.{CallerState}
use Rattle.evl_machine.specs.mutex_locks.MutexLocks.{BeginsToLock, FinishesToLock, TriesToLock, TriesToUnlock, UnlocksFast}
use Rattle.evl_machine.specs.stax_locks.StaxCalls.{StaxCall}
use Rattle.evl_machine.specs.stax_locks.StaxSeats.{LeavesStax, TriesStax}
use Rattle.evl_machine.specs.declared.locking.Begun.{Begun}
use Rattle.evl_machine.specs.declared.locking.Begun.TheVariants as begun
use Rattle.evl_machine.specs.declared.locking.Ended.{Ended}
use Rattle.evl_machine.specs.declared.locking.Ended.TheVariants as ended
use Rattle.evl_words.specs.declared.gate.StaxPass.{StaxPass}
use Rattle.evl_words.specs.declared.mutex.MutexPass.{MutexPass}

-- a pass is given by its name
abbrev pub given_text : {P : Type 0} → List ℕ → Result P Refusal → List ℕ
given_text name (Ok pass) = name
given_text name (Err refusal) = name_of refusal

-- whether others want in where one left
abbrev pub wanted_text : Bool → List ℕ
wanted_text true = codes "done, others want in"
wanted_text false = codes "done"

abbrev pub left_text : {P : Type 0} → Result Bool (Refusal × P) → List ℕ
left_text (Ok wanted) = wanted_text wanted
left_text (Err back) = name_of back.0

abbrev pub unlocked_text : {P : Type 0} → Result (Unit {0}) (Refusal × P) → List ℕ
unlocked_text (Ok _) = codes "done"
unlocked_text (Err back) = name_of back.0

abbrev pub begun_text : List ℕ → Result Begun Refusal → List ℕ
begun_text name (Ok (begun.Locked pass)) = name
begun_text name (Ok begun.Waiting) = codes "begun"
begun_text name (Err refusal) = name_of refusal

abbrev pub ended_text : List ℕ → Result Ended Refusal → List ℕ
ended_text name (Ok (ended.Locked pass)) = name
ended_text name (Ok ended.TimedOut) = codes "timed out"
ended_text name (Err refusal) = name_of refusal

-- whether a take found the core free
abbrev pub taken_text : Bool → List ℕ
taken_text true = codes "done"
taken_text false = name_of CoreBusy

-- the word of a mutex, or nothing
abbrev pub word_shown : Option MutexId → Shows
word_shown None = shows.Nothing
word_shown (Some mutex) = shows.Mutex mutex

-- what the end of a lock shows: the mutex whose pass it gives, or the one for which the caller waits
abbrev pub ended_shows : Holdings → ThreadId → Result Ended Refusal → Shows
ended_shows had who (Ok (ended.Locked pass)) = shows.Mutex pass.mutex
ended_shows had who (Ok ended.TimedOut) = word_shown (awaited_mutex had who)
ended_shows had who (Err refusal) = word_shown (awaited_mutex had who)

-- a thread's caller makes a call of the machine: what is reported is its answer, and what names hold then follows from it
pub record Tells {C R : Type 0} (text : R → List ℕ) (leaves : R → Holdings) (does : R → CallerState C → CallerState C → Type 0) (old : CrewState C) (who : ℕ) (told : List ℕ) (new : CrewState C) (has : Holdings) : Type 0 where
  pub reply : R
  pub made : Steps old who (does reply) new
  pub same : told ≡ text reply
  pub left : has ≡ leaves reply

module _ {C : Type 0} where
  -- a call of the kernel shows nothing
  abbrev pub CallsSo : ℕ → Call → CrewState C → ℕ → List ℕ → Shows → CrewState C → Type 0
  CallsSo limit asked old who told shown new = (shown ≡ shows.Nothing) × (reply : Result Reply Refusal) × CallsKernel limit old who asked reply new × (told ≡ outcome_text reply)

  -- The calls of the machine on staxes show the stax. A name that is to hold a pass holds none before
  abbrev pub EntersStax : StaxId → String Global → CrewState C → Holdings → ThreadId → List ℕ → Shows → CrewState C → Holdings → Type 0
  EntersStax stax name old had who told shown new has = (is_held (string_bytes name) had ≡ false) × (shown ≡ shows.Stax stax)
      × Tells (given_text (string_bytes name)) (stax_given had name) (λ r c c'. StaxCall c (λ was is. TriesStax was stax.0 (stage_of_caller c) r is) c') old who.0 told new has

  -- the pass that is spent is the first of its name
  abbrev pub LeavesBy : String Global → CrewState C → Holdings → ThreadId → List ℕ → Shows → CrewState C → Holdings → Type 0
  LeavesBy name old had who told shown new has = (pass : StaxPass) × (others : List (String Global × StaxPass)) × TakesPass (string_bytes name) had.staxes pass others × (shown ≡ shows.Stax pass.gate)
      × Tells left_text (stax_left (with_staxes had others) name) (λ r c c'. StaxCall c (λ was is. LeavesStax was pass r is) c') old who.0 told new has

  -- those on mutexes show the mutex's word
  abbrev pub LocksMutex : MutexId → String Global → CrewState C → Holdings → ThreadId → List ℕ → Shows → CrewState C → Holdings → Type 0
  LocksMutex mutex name old had who told shown new has = (is_held (string_bytes name) had ≡ false) × (shown ≡ shows.Mutex mutex)
      × Tells (given_text (string_bytes name)) (mutex_given had name) (λ r c c'. TriesToLock c mutex r c') old who.0 told new has

  -- a pass of a mutex is spent by this call
  abbrev pub Spends : (MutexPass → Result (Unit {0}) (Refusal × MutexPass) → CallerState C → CallerState C → Type 0) → String Global → CrewState C → Holdings → ThreadId → List ℕ → Shows → CrewState C → Holdings → Type 0
  Spends does name old had who told shown new has = (pass : MutexPass) × (others : List (String Global × MutexPass)) × TakesPass (string_bytes name) had.mutexes pass others × (shown ≡ shows.Mutex pass.mutex)
      × Tells unlocked_text (mutex_left (with_mutexes had others) name) (does pass) old who.0 told new has

  abbrev pub UnlocksFastBy : String Global → CrewState C → Holdings → ThreadId → List ℕ → Shows → CrewState C → Holdings → Type 0
  UnlocksFastBy name old had who told shown new has = Spends (λ pass r c c'. UnlocksFast c pass r c') name old had who told shown new has

  abbrev pub UnlocksBy : String Global → CrewState C → Holdings → ThreadId → List ℕ → Shows → CrewState C → Holdings → Type 0
  UnlocksBy name old had who told shown new has = Spends (λ pass r c c'. TriesToUnlock c pass r c') name old had who told shown new has

  abbrev pub BeginsLock : MutexId → Option ℕ → String Global → CrewState C → Holdings → ThreadId → List ℕ → Shows → CrewState C → Holdings → Type 0
  BeginsLock mutex until name old had who told shown new has = (is_held (string_bytes name) had ≡ false) × (shown ≡ shows.Mutex mutex)
      × Tells (begun_text (string_bytes name)) (lock_begun had who mutex name) (λ r c c'. BeginsToLock c mutex until r c') old who.0 told new has

  -- the end of a lock shows what its answer says
  pub record FinishesLock (name : String Global) (old : CrewState C) (had : Holdings) (who : ThreadId) (told : List ℕ) (shown : Shows) (new : CrewState C) (has : Holdings) : Type 0 where
    pub free : is_held (string_bytes name) had ≡ false
    pub reply : Result Ended Refusal
    pub made : Steps old who.0 (λ c c'. FinishesToLock c reply c') new
    pub same : told ≡ ended_text (string_bytes name) reply
    pub shown_is : shown ≡ ended_shows had who reply
    pub left : has ≡ lock_ended had who name reply

  -- the calls on the core show who has it
  abbrev pub TakesSo : CrewState C → ℕ → List ℕ → Shows → CrewState C → Type 0
  TakesSo old who told shown new = (free : Bool) × TakesCore old who free new × (told ≡ taken_text free) × (shown ≡ shows.Core)

  abbrev pub GivesSo : CrewState C → ℕ → List ℕ → Shows → CrewState C → Type 0
  GivesSo old who told shown new = GivesCore old who new × (told ≡ codes "done") × (shown ≡ shows.Core)

  -- rule: A name that is to hold a pass holds none before. A step spends its name's first pass; one that comes back is
  --   the name's again. A thread that begins to wait for a mutex waits until that ends.
  --   also: Holdings.Holdings
  --   clauses: play_callers
  --   rows: name_is_held
  -- A step's effect on the callers of a machine with this limit and on what names hold, what is reported of it, and what it shows:
  -- the answer of the call that its word names, as the machine is
  abbrev pub Makes : ℕ → Act → CrewState C → Holdings → ThreadId → List ℕ → Shows → CrewState C → Holdings → Type 0
  Makes limit (act.Call asked) old had who told shown new has = (has ≡ had) × CallsSo limit asked old who.0 told shown new
  Makes limit (act.TryLockStax stax name) old had who told shown new has = EntersStax stax name old had who told shown new has
  Makes limit (act.UnlockStax name) old had who told shown new has = LeavesBy name old had who told shown new has
  Makes limit (act.TryLockMutex mutex name) old had who told shown new has = LocksMutex mutex name old had who told shown new has
  Makes limit (act.UnlockMutexFast name) old had who told shown new has = UnlocksFastBy name old had who told shown new has
  Makes limit (act.TryUnlockMutex name) old had who told shown new has = UnlocksBy name old had who told shown new has
  Makes limit (act.BeginLockMutex mutex until name) old had who told shown new has = BeginsLock mutex until name old had who told shown new has
  Makes limit (act.FinishLockMutex name) old had who told shown new has = FinishesLock name old had who told shown new has
  Makes limit act.Take old had who told shown new has = (has ≡ had) × TakesSo old who.0 told shown new
  Makes limit act.Give old had who told shown new has = (has ≡ had) × GivesSo old who.0 told shown new
