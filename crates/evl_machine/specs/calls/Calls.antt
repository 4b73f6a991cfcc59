-- All that one call of the kernel says to its caller.
use Rattle.std.specs.Prelude.{◌≡◌, ◌≢◌, ◌+◌, ℕ, List, [], ◌∷◌, ◌++◌, Bool, true, false, length, Result, Ok, Err, Option, Some, MatchOption, slice_get}
use Rattle.evl_base.specs.declared.call.Call.{Call}
use Rattle.evl_base.specs.declared.reply.Reply.{Reply}
use Rattle.evl_base.specs.declared.refusal.Refusal.{Refusal}
use Rattle.evl_base.specs.declared.refusal.Refusal.TheVariants.{NoMemory, CoreBusy, HistoryFull}
use Rattle.evl_base.specs.declared.play.Play.{Play}
use Rattle.evl_kernel.specs.histories.Histories.{History}
use Rattle.evl_kernel.specs.calls.MutexEffects.{record_at}
use Rattle.evl_mutex.specs.Mutexes.{Mutex, is_open_to}
use Rattle.evl_words.specs.MutexCalls.{MutexSeatState}
use Rattle.evl_kernel.specs.state.KernelViews.{KernelView, Adds, entry_of, refusal_enters}
use Rattle.evl_core.specs.declared.views.Account.{Account}
use Rattle.evl_core.specs.accounts.Accounts.{BeginsWith, IsAccount, lost_one}
use Rattle.evl_core.specs.lock.Lock.{LockView}
use Rattle.evl_core.specs.worlds.Events.{FailsToTake, Gives, LosesTakes, Takes}
use Rattle.evl_core.specs.worlds.QuietCore.{IsQuiet}
use Rattle.evl_core.specs.rule.Known.{ComesFrom}
use Rattle.evl_base.specs.declared.stage.Stage.{Stage}
use Rattle.evl_machine.specs.declared.unfinished.Unfinished.{Unfinished}
use Rattle.evl_machine.specs.callers.Unfinished.{unfinished_wait}
use Rattle.evl_machine.specs.callers.Actors.{AreHeldAt, call_refusal, stage_in}
use Rattle.evl_machine.specs.stax_locks.StaxSeats.{holds_stax}
use Rattle.evl_core.specs.words.MutexSeats.{holds_mutex, is_owner}
use Rattle.evl_machine.specs.callers.Handles.{CallerState, HeldState, returned, shown}
use Rattle.evl_core.specs.accounts.KernelCalls.{Applied}

-- rule: `NoMemory`, `HistoryFull`, `CoreBusy` and each local answer have no entry of the kernel, and `Raced` has none
--   of the gate.
--   also: Calls.own_refusal; GateCalls.Races
--   rows: racing_callers_1
-- the answers that have an entry: all but NoMemory, HistoryFull and CoreBusy
abbrev pub refusal_completes : Refusal → Bool
refusal_completes CoreBusy = false
refusal_completes refusal = refusal_enters refusal

abbrev pub completes : Result Reply Refusal → Bool
completes (Ok reply) = true
completes (Err refusal) = refusal_completes refusal

-- The call was entered at one point of the common history, after all that the caller had seen, up to which nobody changed the stage of its thread. The history that it has now seen ends there, and of its own calls this one alone is new
pub record Enters (a : Account) (c : Call) (r : Result Reply Refusal) (a' : Account) : Type 0 where
  pub before : History
  pub later : BeginsWith before a.seen
  pub plays : List Play
  pub stage : stage_in before a.thread ≡ stage_in a.seen a.thread
  pub adds : Adds before a.thread c r plays a'.seen
  pub mine : a'.mine ≡ a.mine ++ entry_of a.thread c r plays ∷ []

-- rule: `HistoryFull` comes only if what the caller has now seen is as long as the limit, `NoMemory` only from a kernel
--   that was not full and had no room made.
--   also: Calls.{full, memory}; Visits.FullOnly
--   rows: full_history_behind_the_core; racing_callers_1
-- The answer is the kernel's at one point of the common history, which is legal and begins with all that the caller had seen. A refusal without an entry leaves the caller's own calls, and CoreBusy all that it knows but that one take more was lost. For every other answer the kernel was taken once, and no take was lost. It was full for HistoryFull, and for NoMemory it was not, and had no room made
pub record Answered (limit : ℕ) (a : Account) (c : Call) (r : Result Reply Refusal) (a' : Account) : Type 0 where
  pub thread : a'.thread ≡ a.thread
  pub account : IsAccount a'
  pub later : BeginsWith a'.seen a.seen
  pub entered : completes r ≡ true → Enters a c r a'
  pub refused : completes r ≡ false → a'.mine ≡ a.mine
  pub busy : r ≡ Err CoreBusy → a' ≡ lost_one a
  pub lost : r ≢ Err CoreBusy → a'.lost ≡ a.lost
  pub taken : r ≢ Err CoreBusy → (room : ℕ) × (a'.found ≡ a.found ++ room ∷ [])
  pub full : r ≡ Err HistoryFull → length a'.seen.entries ≡ limit
  pub memory : r ≡ Err NoMemory → (a'.found ≡ a.found ++ 0 ∷ []) × (length a'.seen.entries ≢ limit)

-- The call at the core: CoreBusy comes of a take that found it taken, and every other answer of a take that found it free and the give after it
pub record ActsOnCore {C : Type 0} (first : KernelView C) (a : Account) (l : LockView) (r : Result Reply Refusal) (a' : Account) (l' : LockView) : Type 0 where
  pub busy : r ≡ Err CoreBusy → FailsToTake first a l a' l'
  pub free : r ≢ Err CoreBusy → (held : Account) × (between : LockView) × (k : KernelView C) × Takes first a l held between × Gives first held between k a' l'

-- the answer of a call that comes back where another caller has the kernel
abbrev pub answer_of : Result (Result Reply Refusal) Call → Result Reply Refusal
answer_of (Ok answer) = answer
answer_of (Err back) = Err CoreBusy

-- of each mutex that these seats of a thread hold, a history's end records no other owner
abbrev pub AreOwnedAsRecorded : ℕ → List MutexSeatState → History → Type 0
AreOwnedAsRecorded thread seats h = (i : ℕ) (s : MutexSeatState) (m : Mutex) → slice_get seats i ≡ Some s → is_owner s ≡ true → record_at h.state i ≡ Some m → is_open_to thread m ≡ true

-- rule: A taken kernel's history begins with all that its caller had seen; after the give the caller has seen what it
--   gave.
--   clauses: Held::give: given; Machine::take; Held::{apply, kernel}
-- the kernel's history is what the caller has now seen. It is legal, and it begins with all that the caller had seen; of this thread it has just the caller's own calls, and nobody changed the thread's stage. At its end a line is pending out-of-band only while the out-of-band stage is stalled, and no other owner is recorded of a mutex that the caller holds
pub record TookKernel {C : Type 0} (c : CallerState C) (h : HeldState C) : Type 0 where
  pub caller : h.caller ≡ shown h.kernel.history h.kernel.room h.caller.lock c
  pub later : BeginsWith h.kernel.history c.account.seen
  pub just : IsAccount h.caller.account
  pub stage : stage_in h.kernel.history c.account.thread ≡ stage_in c.account.seen c.account.thread
  pub comes : ComesFrom c.machine.first h.kernel
  pub quiet : IsQuiet h.kernel.history
  pub owned : AreOwnedAsRecorded c.account.thread c.mutexes h.kernel.history

module _ {C : Type 0} where
  -- rule: A caller's stage is its thread's. No other caller changes it; it stays while the caller holds a stax.
  --   also: Calls.{TookKernel, stage}; Actors.stage
  --   clauses: Machine::{try_call, take}
  -- the stage of the caller's thread at the end of what it has seen, and for what it waits
  abbrev pub stage_of_caller : CallerState C → Stage
  stage_of_caller c = stage_in c.account.seen c.account.thread

  abbrev pub wait_of_caller : CallerState C → Option Unfinished
  wait_of_caller c = unfinished_wait c.account.mine

  -- refusals: try_call, call, switch_oob, switch_inband, Held::apply
  --   clauses: Machine::try_call: called; Machine::call: called, entered; Machine::switch_oob: called, entered;
  --   Held::apply: called
  -- what a caller's call is refused by what the caller has itself, before any step
  abbrev pub own_refusal : CallerState C → Call → Option Refusal
  own_refusal caller c = call_refusal (wait_of_caller caller) (holds_stax caller.staxes) (holds_mutex caller.mutexes) c

  -- each stax that the caller holds is held at the stage of its thread
  abbrev pub HoldsAtItsStage : CallerState C → Type 0
  HoldsAtItsStage c = AreHeldAt (stage_of_caller c) c.staxes

  -- of the caller only what it knows of the kernel changes, by its steps at the core
  abbrev pub KernelCall : ℕ → CallerState C → Call → Result Reply Refusal → CallerState C → Type 0
  KernelCall limit old c r new = (new ≡ record old { account = new.account; lock = new.lock }) × Answered limit old.account c r new.account × ActsOnCore old.machine.first old.account old.lock r new.account new.lock

  -- rule: A completed call has one entry, after all that its caller had seen, and adds only that to the caller's own
  --   calls. `CoreBusy` means one more take lost to another thread and changes nothing else. With every other answer of
  --   `try_call` no take was lost; before the answer of `call` come only lost takes.
  --   also: Calls.{Enters, Answered, taken, busy, lost, CalledAtLast}; Events.LosesTakes
  --   clauses: Machine::{try_call, call}; core_world_stands
  --   rows: core_held; machine_4; calls_find_memory; core_held_by_the_other; any_thread_calls_the_stored_closure
  -- an own answer leaves the caller as it was; every other one is the kernel's
  abbrev pub Called : ℕ → CallerState C → Call → Result Reply Refusal → CallerState C → Type 0
  Called limit old c r new = MatchOption (own_refusal old c) (KernelCall limit old c r new) (λ refusal. (r ≡ Err refusal) × (new ≡ old))

  -- of the caller only what it knows changes, by takes that found the core taken
  abbrev pub IsTurnedAway : CallerState C → CallerState C → Type 0
  IsTurnedAway old new = (new ≡ record old { account = new.account; lock = new.lock }) × (lost : List (Account × LockView)) × LosesTakes old.machine.first old.account old.lock lost new.account new.lock

  -- rule: `call` repeats while the core is taken and adds at most one entry. A switch is such a call of `SetStage`.
  --   clauses: Machine::{switch_inband, switch_oob, call}
  --   rows: racing_callers_4; machine_1
  -- rule: A waiting form answers what its last call answered.
  --   also: Waitings.WaitsOut; StaxWaits.WaitsForStax; MutexWaits.{Lasts, UnlocksAtLast}
  --   clauses: Machine::{call, get_sem, lock_stax, lock_mutex, unlock_mutex}
  -- as `Called`, of a call that is made until the core isn't found taken: before the kernel's answer come only takes that were lost
  abbrev pub CalledAtLast : ℕ → CallerState C → Call → Result Reply Refusal → CallerState C → Type 0
  CalledAtLast limit old c r new = MatchOption (own_refusal old c) ((last : CallerState C) × IsTurnedAway old last × KernelCall limit last c r new) (λ refusal. (r ≡ Err refusal) × (new ≡ old))

  -- as `Called`, of a caller that has the kernel, which goes by what it would know if it gave the kernel back
  abbrev pub CalledHeld : HeldState C → Call → Result Reply Refusal → HeldState C → Type 0
  CalledHeld old c r new = MatchOption (own_refusal (returned old.kernel.history old.caller.lock old.caller) c) ((new.caller ≡ old.caller) × Applied old.kernel old.caller.account.thread c r new.kernel) (λ refusal. (r ≡ Err refusal) × (new ≡ old))
