-- The records that are kept of callers at one moment.
use Rattle.std.specs.Prelude.{ℕ, ◌≡◌, Bool, List, [], ◌∷◌, ◌++◌, length, map, slice_get, string_bytes, Result, Ok, Err}
use Rattle.std.specs.Option.{option_map_or}
use Rattle.evl_base.specs.declared.refusal.Refusal.{Refusal}
use Rattle.evl_base.specs.declared.reply.Reply.{Reply}
use Rattle.evl_kernel.specs.state.States.{State, Handler}
use Rattle.evl_kernel.specs.histories.Replays.{step_outcome}
use Rattle.lab_scenario_orders.specs.Callers.{Seen, is_held, state_begun}
use Rattle.lab_scenario_orders.specs.Watches.{is_noted}
use Rattle.lab_scenario_orders.specs.declared.callers.Callers.{Callers}
use Rattle.lab_scenario_orders.specs.declared.moments.Moment.{Moment}
use Rattle.lab_scenario_orders.specs.declared.watches.Watch.{Watch}

-- the records after the step at this place
abbrev pub made_at : Callers → State → ℕ → State
made_at c s place = option_map_or (λ step. (step_outcome s step.who.0 step.call).after) (slice_get c.steps.items place) s

-- and after the steps at these places
abbrev pub trailed : Callers → State → List ℕ → State
trailed c s [] = s
trailed c s (place ∷ trail) = trailed c (made_at c s place) trail

-- a step that was refused isn't kept
abbrev pub trail_after : List ℕ → ℕ → Result Reply Refusal → List ℕ
trail_after trail place (Ok reply) = trail ++ place ∷ []
trail_after trail place (Err refusal) = trail

-- the callers and the kernel that a moment means, from these records on
abbrev pub seen_from : Callers → State → Moment → Seen
seen_from c s moment = record {
  made = moment.made.items;
  answers = map string_bytes moment.answers.items;
  state = trailed c s moment.trail.items;
}

abbrev pub seen_at : Callers → List Handler → Moment → Seen
seen_at c bank moment = seen_from c (state_begun c bank) moment

-- each caller has its place there
pub record IsMoment (c : Callers) (moment : Moment) : Type 0 where
  pub made : length moment.made.items ≡ length c.callers.items
  pub answers : length moment.answers.items ≡ length c.callers.items

-- who of the callers can make no step
abbrev pub held_in : Callers → State → List Bool
held_in c s = map (λ caller. is_held c.as_picked s caller.who.0) c.callers.items

-- and of what is asked of moments, it is noted what the records are as is looked for, and who is held
pub record IsNoted (c : Callers) (bank : List Handler) (watches : List Watch) (moment : Moment) : Type 0 where
  pub places : IsMoment c moment
  pub noted : moment.noted.items ≡ map (is_noted (seen_at c bank moment).state) watches
  pub held : moment.held.items ≡ held_in c (seen_at c bank moment).state

-- a kernel with these records over this bank is where a moment's steps lead over the bank of callers
abbrev pub StandsAt : Callers → List Handler → State → List Handler → Moment → Type 0
StandsAt c bank s known moment = (s ≡ trailed c (state_begun c bank) moment.trail.items) × (known ≡ bank)
