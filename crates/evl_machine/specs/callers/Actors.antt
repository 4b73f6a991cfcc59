-- A thread's actor: its token at the core's table, the thread's stage and unfinished wait, and its seats at the staxes and mutexes.
use Rattle.std.specs.Prelude.{◌≡◌, ℕ, ◌<◌, ◌||◌, not, Bool, true, false, List, length, All, map, Option, Some, None, if◌then◌else◌, slice_get}
use Rattle.evl_base.specs.declared.call.Call.{Call}
use Rattle.evl_base.specs.declared.call.Call.TheVariants.{Attach, Detach, SetStage, Claim, Release, Raise, Finish}
use Rattle.evl_base.specs.declared.numbers.ThreadId.{ThreadId}
use Rattle.evl_base.specs.declared.refusal.Refusal.{Refusal}
use Rattle.evl_base.specs.declared.refusal.Refusal.TheVariants.{Invalid, HoldsStax, Busy}
use Rattle.evl_base.specs.declared.stage.Stage.{Stage}
use Rattle.evl_sched.specs.Threads.{stage_of}
use Rattle.evl_kernel.specs.histories.Histories.{History}
use Rattle.evl_words.specs.GateCalls.{SeatState}
use Rattle.evl_words.specs.MutexCalls.{MutexSeatState}
use Rattle.evl_words.specs.declared.mutex.place.MutexPlace.{MutexPlace}
use Rattle.atomic_table.specs.Seated.{TableId}
use Rattle.evl_machine.specs.declared.unfinished.Unfinished.{Unfinished}
use Rattle.evl_machine.specs.declared.unfinished.Unfinished.TheVariants.{Mutex}
use Rattle.evl_core.specs.accounts.Accounts.{calls_by}
use Rattle.evl_core.specs.rule.Known.{KernelMe, first_of}
use Rattle.evl_core.specs.words.MutexTokens.{IsAtTable, seats_at}
use Rattle.evl_machine.specs.callers.Unfinished.{unfinished_wait}

-- the stage of a thread at the end of a history
abbrev pub stage_in : History → ℕ → Stage
stage_in h thread = stage_of h.state.sched thread

-- each stax that is held is held at this stage
abbrev pub AreHeldAt : Stage → List SeatState → Type 0
AreHeldAt stage seats = (i : ℕ) (s : SeatState) (held : Stage) → slice_get seats i ≡ Some s → s.view.held.stage ≡ Some held → held ≡ stage

-- rule: A caller has its thread, stage, unfinished wait, seats at staxes and mutexes, and the number of its passes.
--   also: Actors.IsActor; AtSeats.AreCounted
pub record ActorState : Type 0 where
  pub thread : ThreadId
  pub stage : Stage
  pub wait : Option Unfinished
  pub staxes : List SeatState
  pub mutexes : List MutexSeatState

-- a wait for a mutex is for one of so many, and so is a claim
abbrev pub AwaitsOneOf : ℕ → Option Unfinished → Type 0
AwaitsOneOf count (Some (Mutex mutex)) = mutex.0 < count
AwaitsOneOf count wait = Unit {0}

abbrev pub ClaimsOneOf : ℕ → Call → Type 0
ClaimsOneOf count (Claim mutex owner until) = mutex.0 < count
ClaimsOneOf count _ = Unit {0}

-- its token at the core's table, and what it has beside it
pub record SeatedActor (C : Type 0) : Type 0 where
  pub table : TableId
  pub me : KernelMe C
  pub thread : ThreadId
  pub stage : Stage
  pub wait : Option Unfinished
  pub staxes : List SeatState
  pub places : List MutexPlace

-- what a contract reads of it: its token and its places are its seats at the mutexes
abbrev pub acting : {C : Type 0} → SeatedActor C → ActorState
acting a = record { thread = a.thread; stage = a.stage; wait = a.wait; staxes = a.staxes; mutexes = seats_at a.table a.me.0 a.places }

-- its seats are those of its thread, its places those of its token, it waits for no mutex but one of those, and at its stage it holds staxes
pub record IsActor {C : Type 0} (a : SeatedActor C) : Type 0 where
  pub held : AreHeldAt a.stage a.staxes
  pub awaits : AwaitsOneOf (length a.places) a.wait
  pub staxes : All (λ n. n ≡ a.thread.0) (map (λ s. s.number) a.staxes)
  pub places : IsAtTable a.table (first_of a.me.0) a.table a.me.0 a.places

-- it acts for the same thread and has the same seats
pub record IsSameActor (old new : ActorState) : Type 0 where
  pub thread : new.thread ≡ old.thread
  pub staxes : new.staxes ≡ old.staxes
  pub mutexes : new.mutexes ≡ old.mutexes

-- what it keeps of its thread is what a history says
pub record Suits (a : ActorState) (h : History) : Type 0 where
  pub stage : a.stage ≡ stage_in h a.thread.0
  pub wait : a.wait ≡ unfinished_wait (calls_by a.thread.0 h.entries)

abbrev pub waits_for_mutex : Option Unfinished → Bool
waits_for_mutex (Some (Mutex mutex)) = true
waits_for_mutex wait = false

-- whether a weak thread keeps its stage when it finishes a wait: where it holds a mutex or a stax
abbrev pub keeps_stage : Bool → Bool → Bool
keeps_stage stax mutex = stax || mutex

abbrev pub same_truth : Bool → Bool → Bool
same_truth true b = b
same_truth false b = not b

-- rule: The caller's own state refuses a call before any step, exactly as `own_refusal` says.
--   clauses: Machine::{try_call, call}; Held::apply
--   rows: machine_2; stax_stages; own_refusals
-- The refusals of a call by what its caller has itself: by its unfinished wait, by whether it holds a stax, and a mutex. Mutexes are claimed, released and raised, and waits for them finished, by calls of their own; a Finish keeps the stage exactly where something is held; who holds a stax stays on its stage, and who holds a mutex stays attached
abbrev pub call_refusal : Option Unfinished → Bool → Bool → Call → Option Refusal
call_refusal wait stax mutex (Claim id owner until) = Some Invalid
call_refusal wait stax mutex (Release id) = Some Invalid
call_refusal wait stax mutex (Raise id) = Some Invalid
call_refusal wait stax mutex (Finish keep) = if waits_for_mutex wait || not (same_truth keep (keeps_stage stax mutex)) then Some Invalid else None
call_refusal wait stax mutex (Attach policy stage) = if stax then Some HoldsStax else None
call_refusal wait stax mutex (SetStage stage) = if stax then Some HoldsStax else None
call_refusal wait stax mutex Detach = if stax then Some HoldsStax else (if mutex then Some Busy else None)
call_refusal wait stax mutex _ = None
