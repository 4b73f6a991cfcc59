-- For what a thread waits is changed by its own calls alone, by what they were answered.
use Rattle.std.specs.Prelude.{◌≡◌, ◌≢◌, ℕ, ◌==◌, if◌then◌else◌, true, List, [], ◌∷◌, Option, Some, None, option_map, Result, Ok}
use Rattle.evl_base.specs.Board.{board_fits}
use Rattle.evl_base.specs.declared.call.Call.{Call}
use Rattle.evl_base.specs.declared.entry.Entry.{Entry}
use Rattle.evl_base.specs.declared.play.Play.{Play}
use Rattle.evl_base.specs.declared.refusal.Refusal.{Refusal}
use Rattle.evl_base.specs.declared.reply.Reply.{Reply}
use Rattle.evl_kernel.specs.declared.waits.Awaited.{Awaited}
use Rattle.evl_kernel.specs.state.States.{State}
use Rattle.evl_kernel.specs.waiting.Waits.{wait_at}
use Rattle.evl_kernel.specs.waiting.Beginnings.{awaited_by}
use Rattle.evl_kernel.specs.calls.Families.{Task, begins, ends, task_of}
use Rattle.evl_kernel.specs.histories.Histories.{History, IsLegal, Step}

-- for what its unfinished wait is or was, if it has one
abbrev pub awaited_at : State → ℕ → Option Awaited
awaited_at s t = option_map (λ w. w.on) (wait_at s t)

-- and once this call was answered: what was begun is awaited, what was finished isn't any more
abbrev pub awaited_after : Task → Result Reply Refusal → Option Awaited → Option Awaited
awaited_after (begins wants until) (Ok reply) before = Some (awaited_by wants)
awaited_after (ends keep) (Ok reply) before = None
awaited_after _ _ before = before

pub record WaitsGoBy (old : State) (caller : ℕ) (asked : Call) (reply : Result Reply Refusal) (new : State) : Type 0 where
  pub others : (t : ℕ) → t ≢ caller → awaited_at new t ≡ awaited_at old t
  pub own : awaited_at new caller ≡ awaited_after (task_of asked) reply (awaited_at old caller)

-- in every legal history over a board within its limits
abbrev pub WaitsAreTheThreadsOwn : Type 0
WaitsAreTheThreadsOwn =
    (h : History) → IsLegal h → board_fits h.board ≡ true → (caller : ℕ) (asked : Call) (reply : Result Reply Refusal) (plays : List Play) (new : State)
    → Step h.state caller asked reply plays new → WaitsGoBy h.state caller asked reply new

-- for what a thread waits after these calls, before which it waited for this
abbrev pub awaited_along : ℕ → List Entry → Option Awaited → Option Awaited
awaited_along t [] before = before
awaited_along t (e ∷ es) before = awaited_along t es (if e.caller.0 == t then awaited_after (task_of e.call) e.reply before else before)

-- a thread waits for what its own calls say
abbrev pub WaitsAreOfTheirCalls : Type 0
WaitsAreOfTheirCalls = (h : History) → IsLegal h → board_fits h.board ≡ true → (t : ℕ) → awaited_at h.state t ≡ awaited_along t h.entries None
