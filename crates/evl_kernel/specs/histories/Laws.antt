-- Laws over histories.
use Rattle.std.specs.Prelude.{ℕ, ◌≡◌, ◌≢◌, ◌≤◌, ◌+◌, true, false, List, All, map, length, Result, Ok}
use Rattle.evl_base.specs.declared.stage.Stage.TheVariants.{Oob}
use Rattle.evl_base.specs.declared.call.Call.{Call}
use Rattle.evl_base.specs.declared.play.Play.{Play}
use Rattle.evl_base.specs.declared.entry.Entry.{Entry}
use Rattle.evl_pipeline.specs.Plans.{IsSound}
use Rattle.evl_pipeline.specs.Lines.{is_pending}
use Rattle.evl_clock.specs.Dues.{is_due}
use Rattle.evl_sched.specs.Threads.{stage_of}
use Rattle.evl_kernel.specs.state.Limits.{play_limit}
use Rattle.evl_kernel.specs.state.States.{State}
use Rattle.evl_kernel.specs.calls.Families.{moves_caller, task_of, time_of}
use Rattle.evl_kernel.specs.histories.Histories.{Step, Run, History, IsLegal, opened_kernel}
use Rattle.evl_kernel.specs.histories.Replays.{step_outcome}
use Rattle.evl_kernel.specs.histories.Worlds.{outside_inband, played_outside, RequestsNoActions}
use Rattle.evl_base.specs.declared.refusal.Refusal.{Refusal}
use Rattle.evl_base.specs.declared.reply.Reply.{Reply}

-- who called what
abbrev pub call_of : Entry → ℕ × Call
call_of e = (e.caller.0, e.call)

abbrev pub RunIsDetermined : Type 0
RunIsDetermined =
    (opening : State) (entries others : List Entry) (plays more : List Play) (state other : State)
    → map call_of entries ≡ map call_of others
    → Run opening entries plays state → Run opening others more other
    → (entries ≡ others) × (plays ≡ more) × (state ≡ other)

-- a step of few plays is what `step_outcome` computes
abbrev pub StepIsComputed : Type 0
StepIsComputed =
    (old : State) (caller : ℕ) (asked : Call) (reply : Result Reply Refusal) (plays : List Play) (new : State)
    → Step old caller asked reply plays new → length plays ≤ play_limit
    → step_outcome old caller asked ≡ record { reply = reply; plays = plays; touches = (step_outcome old caller asked).touches; after = new }

-- a line is pending out-of-band only while the out-of-band stage is stalled
abbrev pub OobPendsOnlyWhileStalled : Type 0
OobPendsOnlyWhileStalled = (h : History) → IsLegal h → (line : ℕ) → is_pending h.state.lines Oob line ≡ true → h.state.lines.oob.stalled ≡ true

-- a timer or a deadline is due only if line 0 is pending out-of-band
abbrev pub DueMeansPending : Type 0
DueMeansPending = (h : History) → IsLegal h → is_due h.state.clock ≡ true → is_pending h.state.lines Oob 0 ≡ true

-- rule: If no callback requested in-band has actions, in-band stalls change neither the out-of-band plays nor the
--   answers to other calls.
--   clauses: two_worlds
-- Two histories over one board and one bank have the same calls once every in-band stall is taken out of both, and no
-- callback that was requested in-band has actions: then all plays but in-band ones are the same list, and all other calls
-- have the same replies.
abbrev pub TwoWorlds : Type 0
TwoWorlds =
    (h other : History) → IsLegal h → IsLegal other → other.board ≡ h.board → other.bank ≡ h.bank
    → map call_of (outside_inband h.entries) ≡ map call_of (outside_inband other.entries)
    → All (RequestsNoActions (opened_kernel h)) h.entries → All (RequestsNoActions (opened_kernel other)) other.entries
    → (played_outside h.plays ≡ played_outside other.plays) × (map (λ e. e.reply) (outside_inband h.entries) ≡ map (λ e. e.reply) (outside_inband other.entries))

-- from every state of a legal history over sound handlers every call has a step of few plays, which is the one that
-- `step_outcome` computes
abbrev pub EveryCallSteps : Type 0
EveryCallSteps =
    (h : History) → All (λ handler. IsSound handler.kinds handler.plan) h.bank → IsLegal h → (caller : ℕ) (asked : Call)
    → Step h.state caller asked (step_outcome h.state caller asked).reply (step_outcome h.state caller asked).plays (step_outcome h.state caller asked).after
    × (length (step_outcome h.state caller asked).plays ≤ play_limit)

-- no call of another thread, and no play, changes the stage of a thread
abbrev pub StagesAreTheThreadsOwn : Type 0
StagesAreTheThreadsOwn =
    (old : State) (caller : ℕ) (asked : Call) (reply : Result Reply Refusal) (plays : List Play) (new : State)
    → Step old caller asked reply plays new → (thread : ℕ) → thread ≢ caller → stage_of new.sched thread ≡ stage_of old.sched thread

-- a call that isn't about its caller's stage, and a Finish that keeps it, changes the stage of nobody
abbrev pub StagesStayWhereNobodyMoves : Type 0
StagesStayWhereNobodyMoves =
    (old : State) (caller : ℕ) (asked : Call) (reply : Result Reply Refusal) (plays : List Play) (new : State)
    → Step old caller asked reply plays new → moves_caller (task_of asked) ≡ false → (thread : ℕ) → stage_of new.sched thread ≡ stage_of old.sched thread

-- an accepted tick moves the date by its nanoseconds; no other call moves it, and no play
abbrev pub TicksMoveTheDate : Type 0
TicksMoveTheDate =
    (old : State) (caller : ℕ) (asked : Call) (given : Reply) (plays : List Play) (new : State)
    → Step old caller asked (Ok given) plays new → new.clock.now ≡ old.clock.now + time_of (task_of asked)
