-- Which callbacks the plays of a call called, and with what.
use Rattle.std.specs.Prelude.{⊤, ℕ, ◌≡◌, List, [], ◌∷◌, ◌++◌, Some, Ok, Err}
use Rattle.evl_base.specs.declared.call.Call.{Call}
use Rattle.evl_base.specs.declared.play.Play.{Play}
use Rattle.evl_base.specs.declared.play.Play.TheVariants.{Line, Timer}
use Rattle.evl_pipeline.specs.declared.answer.Answer.{Answer}
use Rattle.evl_pipeline.specs.declared.fire.Fire.{Fire}
use Rattle.evl_pipeline.specs.Lines.{Installed, installed_at, fire_of}
use Rattle.evl_clock.specs.declared.timer.Timer as timer
use Rattle.evl_clock.specs.Timers as timers
use Rattle.evl_clock.specs.Clocks.{timer_at}
use Rattle.evl_kernel.specs.state.States.{State, date}
use Rattle.evl_kernel.specs.calls.Effects.{Effect}
use Rattle.evl_kernel.specs.calls.Serving.{answer}
use Rattle.evl_kernel.specs.settling.Settling.{Settling, next_play, answer_given, timer_given, after_call}
use Rattle.evl_kernel.specs.histories.Histories.{History}
use Rattle.evl_kernel.specs.state.Callbacks.{Whereabouts, Stands}

module _ {C : Type 0} (gives : C → Fire → Answer → Type 0) (w : Whereabouts C) where
  -- the callback of this number was called with just this fire, and gave this answer
  pub record Gave (number : ℕ) (fire : Fire) (answer : Answer) : Type 0 where
    pub callback : C
    pub stands : Stands w number callback
    pub gave : gives callback fire answer

  -- A play of a line calls the callback that is there: with the line and its stage, the tag of its request, a count
  -- that is one higher, and the date.
  abbrev pub Called : State → Play → Type 0
  Called s (Line line stage count handled) =
      (at : Installed ℕ) × (installed_at s.lines stage line.0 ≡ Some at) × Gave at.callback (fire_of at stage line.0 (date s)) (answer_given s at)
  -- a play of a timer calls its callback: with line 0 and the out-of-band stage, the tag of its making, a count that is one
  -- higher, and the date
  Called s (Timer id count missed handled) =
      (at : timer.Timer ℕ) × (timer_at s.clock id.0 ≡ Some at) × Gave at.callback (timers.fire_of at (date s)) (timer_given s at)
  Called s _ = ⊤

  -- each play of a settling
  abbrev pub AllCalled : Settling → List Play → Type 0
  AllCalled at [] = ⊤
  AllCalled at (one ∷ others) = Called at.state one × ((mid : Settling) → next_play at ≡ Some (one, mid) → AllCalled mid others)

  -- each play that follows what a call did
  abbrev pub FollowsByCalls : Effect → List Play → Type 0
  FollowsByCalls (Err refusal) plays = ⊤
  FollowsByCalls (Ok (reply, changed)) plays = AllCalled (after_call changed) plays

  -- each play that a call added to a history
  abbrev pub AddsByCalls : History → ℕ → Call → History → Type 0
  AddsByCalls old caller asked new = (plays : List Play) → new.plays ≡ old.plays ++ plays → FollowsByCalls (answer old.state caller asked) plays
