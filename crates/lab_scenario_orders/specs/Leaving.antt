-- Callers that leave once they have made their steps.
use Rattle.std.specs.Prelude.{ℕ, ◌≡◌, ◌==◌, ◌≤◌, ◌+◌, Bool, true, false, if◌then◌else◌, List, [], ◌∷◌, ◌++◌, filter, length, map}
use Rattle.evl_base.specs.declared.call.Call.{Call}
use Rattle.evl_base.specs.declared.call.Call.TheVariants as call
use Rattle.evl_base.specs.declared.stage.Stage.{Stage}
use Rattle.evl_base.specs.declared.stage.Stage.TheVariants.{Oob, Inband}
use Rattle.evl_scenario.specs.declared.steps.Step.{Step}
use Rattle.lab_scenario_orders.specs.Shares.{AreCallersOf, limit_with}
use Rattle.lab_scenario_orders.specs.declared.callers.Caller.{Caller}
use Rattle.lab_scenario_orders.specs.declared.callers.Callers.{Callers}

abbrev pub is_oob : Stage → Bool
is_oob Oob = true
is_oob Inband = false

-- a thread is out-of-band after a call of its own that isn't refused, where it was or was not
abbrev pub stays_by : Bool → Call → Bool
stays_by was (call.Attach policy stage) = is_oob stage
stays_by was (call.SetStage stage) = is_oob stage
stays_by was call.Detach = false
stays_by was _ = was

-- and after all of these steps
abbrev pub stays : Bool → ℕ → List Step → Bool
stays was who [] = was
stays was who (step ∷ steps) = stays (if step.who.0 == who then stays_by was step.call else was) who steps

abbrev pub stays_there : List Step → List Step → Caller → Bool
stays_there setup steps caller = stays (stays false caller.who.0 setup) caller.who.0 steps

-- the step with which a thread leaves: it goes in-band
abbrev pub leaving_step : ℕ → Step
leaving_step who = record { who = record { 0 = who }; call = call.SetStage Inband }

-- a step for each of these callers that is out-of-band at last
abbrev pub leaving_steps : List Step → List Step → List Caller → List Step
leaving_steps setup steps callers = map (λ caller. leaving_step caller.who.0) (filter (stays_there setup steps) callers)

-- rule: With `as_picked` each caller that its steps of `attach`, `set_stage` and `detach` leave out-of-band makes one
--   step more, which takes it in-band. All else is as in the text.
--   also: Leaving.leaving_steps
--   clauses: leaving
--   rows: who_leaves_is_out_of_the_way
-- the same callers, with these steps more, each as the last one of its thread, and room for them
pub record AreLeaving (read set : Callers) : Type 0 where
  pub board : set.board ≡ read.board
  pub limit : set.limit ≡ limit_with read.limit (length (leaving_steps read.setup.items read.steps.items read.callers.items))
  pub as_picked : set.as_picked ≡ true
  pub setup : set.setup ≡ read.setup
  pub steps : set.steps.items ≡ read.steps.items ++ leaving_steps read.setup.items read.steps.items read.callers.items
  pub callers : AreCallersOf set.steps.items set.callers.items
