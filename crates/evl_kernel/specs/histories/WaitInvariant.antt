-- The laws of the waits in every legal history.
use Rattle.std.specs.Prelude.{ℕ, ◌≡◌, Bool, true, false, not, ◌&&◌, List, Option, Some, None, Result, is_none}
use Rattle.std.specs.Option.{option_map_or}
use Rattle.evl_base.specs.Board.{board_fits}
use Rattle.evl_base.specs.declared.call.Call.{Call}
use Rattle.evl_base.specs.declared.play.Play.{Play}
use Rattle.evl_base.specs.declared.refusal.Refusal.{Refusal}
use Rattle.evl_base.specs.declared.reply.Reply.{Reply}
use Rattle.evl_clock.specs.Clocks.{deadline_at}
use Rattle.evl_sched.specs.Threads.{is_oob, is_ready, stage_of}
use Rattle.evl_kernel.specs.declared.waits.Awaited.{Awaited}
use Rattle.evl_kernel.specs.state.States.{State}
use Rattle.evl_kernel.specs.calls.Elements.{elements}
use Rattle.evl_kernel.specs.waiting.Waits.{wait_at, going_on}
use Rattle.evl_kernel.specs.waiting.Standing.{AreSound, stands_for}
use Rattle.evl_kernel.specs.calls.Families.{Task, begins, task_of}
use Rattle.evl_kernel.specs.histories.Histories.{History, IsLegal, Step}

-- the thread is blocked: its wait goes on
abbrev pub is_blocked : State → ℕ → Bool
is_blocked s thread = option_map_or (λ w. is_none w.outcome) (wait_at s thread) false

-- rule: In every legal history over a board within its limits a semaphore's count is 0 while somebody waits; nobody
--   waits for bits that are there or at a cross-buffer that could serve, each way of which has waiters in one queue
--   only; greater ranks are first; a thread is in a queue exactly while its wait for just that goes on; ready are
--   exactly the attached out-of-band threads that are not blocked; only blocked threads have deadlines, those of their
--   waits.
--   also: WaitInvariant.HasItsDeadline
--   clauses: waits_stay_proper; deadlines_stand
pub record WaitsAreProper (s : State) : Type 0 where
  pub sound : AreSound (elements s)
  -- a thread is in a queue exactly where its wait for just that goes on: so in one queue at most
  pub stands : (on : Awaited) (thread : ℕ) → stands_for (elements s) on thread ≡ true → wait_at s thread ≡ Some (going_on on)
  pub waits : (on : Awaited) (thread : ℕ) → wait_at s thread ≡ Some (going_on on) → stands_for (elements s) on thread ≡ true
  -- ready are just the attached out-of-band threads that aren't blocked
  pub ready : (thread : ℕ) → is_ready s.sched thread ≡ (is_oob (stage_of s.sched thread) && not (is_blocked s thread))
  -- only a blocked thread has a deadline
  pub dated : (thread date : ℕ) → deadline_at s.clock thread ≡ Some date → is_blocked s thread ≡ true

-- after each call, over a board within its limits
abbrev pub WaitsStayProper : Type 0
WaitsStayProper = (h : History) → IsLegal h → board_fits h.board ≡ true → WaitsAreProper h.state

-- the deadline with which a call begins a wait
abbrev pub until_of : Task → Option ℕ
until_of (begins on until) = until
until_of _ = None

-- of a thread that is blocked after a step of this caller
pub record HasItsDeadline (old : State) (caller : ℕ) (asked : Call) (new : State) (thread : ℕ) : Type 0 where
  -- blocked before it, the thread keeps the deadline that it had
  pub kept : is_blocked old thread ≡ true → deadline_at new.clock thread ≡ deadline_at old.clock thread
  -- else it is the caller, whose call has begun this wait, until the deadline that it names
  pub begun : is_blocked old thread ≡ false → (thread ≡ caller) × (deadline_at new.clock thread ≡ until_of (task_of asked))

-- after each call, over a board within its limits
abbrev pub DeadlinesStand : Type 0
DeadlinesStand =
    (h : History) → IsLegal h → board_fits h.board ≡ true → (caller : ℕ) (asked : Call) (reply : Result Reply Refusal) (plays : List Play) (new : State)
    → Step h.state caller asked reply plays new → (thread : ℕ) → is_blocked new thread ≡ true → HasItsDeadline h.state caller asked new thread
