-- All that a settling has played so far, and how much is left at most.
use Rattle.std.specs.Prelude.{ℕ, ◌≡◌, ◌+◌, ◌-◌, ◌*◌, ◌≤◌, Bool, ◌&&◌, List, ◌++◌, length, Result}
use Rattle.evl_base.specs.declared.stage.Stage.{Stage}
use Rattle.evl_base.specs.declared.stage.Stage.TheVariants.{Oob}
use Rattle.evl_base.specs.declared.call.Call.{Call}
use Rattle.evl_base.specs.declared.refusal.Refusal.{Refusal}
use Rattle.evl_base.specs.declared.reply.Reply.{Reply}
use Rattle.evl_base.specs.declared.play.Play.{Play}
use Rattle.evl_base.specs.declared.play.Play.TheVariants.{Clock, Timer, Deadline, Line}
use Rattle.evl_pipeline.specs.declared.answer.Answer.{Answer}
use Rattle.evl_pipeline.specs.declared.fire.Fire.{Fire}
use Rattle.evl_pipeline.specs.Limits.{action_limit}
use Rattle.evl_clock.specs.Dues.{due_count, is_due}
use Rattle.evl_kernel.specs.state.Limits.{inband_limit, play_limit}
use Rattle.evl_kernel.specs.state.States.{State}
use Rattle.evl_kernel.specs.calls.Serving.{answer}
use Rattle.evl_kernel.specs.settling.Settling.{Settling, Settles, after_call}
use Rattle.evl_kernel.specs.histories.Histories.{Step}
use Rattle.evl_kernel.specs.state.Callbacks.{Whereabouts}
use Rattle.evl_kernel.specs.settling.Fires.{AllCalled, FollowsByCalls}
use Rattle.evl_kernel.specs.state.Records.{RecordsView, state_of}

-- the stage on which it was played
abbrev pub stage_of : Play → Stage
stage_of Clock = Oob
stage_of (Timer timer count missed handled) = Oob
stage_of (Deadline thread) = Oob
stage_of (Line line stage count handled) = stage

-- the settling of some records after so many in-band plays; whether the last play was the clock's or that of a due item
abbrev pub settling : {C : Type 0} → RecordsView C → ℕ → Bool → Settling
settling r inband of_clock = record { state = state_of r; inband = inband; in_clock = of_clock && is_due (state_of r).clock }

-- the pending out-of-band lines and the due items
abbrev pub waiting : State → ℕ
waiting s = length s.lines.oob.pending + due_count s.clock

-- No more plays than this are left after so many in-band ones: each pending out-of-band line is one, each due item is one, and each of the in-band
-- plays that are left may post as many out-of-band lines as an answer has actions. No play makes anything due, as no time
-- passes while the kernel settles.
abbrev pub left_after : State → ℕ → ℕ
left_after s inband = (1 + action_limit) * (inband_limit - inband) + waiting s

abbrev pub left_to_play : Settling → ℕ
left_to_play at = left_after at.state at.inband

-- the plays of a settling were appended, few of them, and each of a line called its callback
pub record Appends {C : Type 0} (gives : C → Fire → Answer → Type 0) (w : Whereabouts C) (before : List Play) (old : State) (after : List Play) (new : State) : Type 0 where
  pub made : List Play
  pub appended : after ≡ before ++ made
  pub settles : Settles old made new
  pub few : length made ≤ play_limit
  -- rule: Each play called the line's or the timer's callback, with line, stage, tag, count and date.
  --   clauses: Kernel::apply
  pub called : AllCalled gives w (after_call old) made

-- a step of the kernel was made, and its plays were appended, few of them, and each of a line called its callback
pub record Performs {C : Type 0} (gives : C → Fire → Answer → Type 0) (w : Whereabouts C) (before : List Play) (old : State) (caller : ℕ) (asked : Call) (reply : Result Reply Refusal) (after : List Play) (new : State) : Type 0 where
  pub made : List Play
  pub appended : after ≡ before ++ made
  pub step : Step old caller asked reply made new
  pub few : length made ≤ play_limit
  pub called : FollowsByCalls gives w (answer old caller asked) made
