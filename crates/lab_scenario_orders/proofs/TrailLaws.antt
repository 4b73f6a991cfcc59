-- The records after the steps that weren't refused are those after all steps.
use Rattle.std.proofs.Common.{◌≡◌, ℕ, ◌+◌, Bool, true, false, List, [], ◌∷◌, ◌++◌, length, map, Some, None, Result, Ok, Err, if◌then◌else◌, refl, sym, ◌∙◌, ap, length-set}
use Rattle.std.specs.Prelude.{slice_get, slice_index, slice_index_or, slice_set, string_bytes, Option}
use Rattle.std.specs.Option.{option_map_or}
use Rattle.evl_base.specs.declared.refusal.Refusal.{Refusal}
use Rattle.evl_base.specs.declared.reply.Reply.{Reply}
use Rattle.evl_kernel.specs.histories.Replays.{step_outcome}
use Rattle.evl_kernel.specs.state.States.{State}
use Rattle.evl_scenario.specs.declared.steps.Step.{Step}
use Rattle.lab_scenario_orders.specs.Callers.{Seen, after, answer_line, is_held, step_of}
use Rattle.lab_scenario_orders.specs.Moments.{IsMoment, made_at, seen_from, trailed, trail_after}
use Rattle.lab_scenario_orders.specs.declared.callers.Callers.{Callers}
use Rattle.lab_scenario_orders.specs.declared.moments.Moment.{Moment}
use Rattle.lab_scenario_orders.proofs.CallLaws.{refused}
use Rattle.lab_scenario_orders.proofs.MomentLaws.{mapped}

-- one step more
trailed_more : (c : Callers) (s : State) (trail : List ℕ) (place : ℕ) → trailed c s (trail ++ place ∷ []) ≡ made_at c (trailed c s trail) place
trailed_more c s [] place = refl
trailed_more c s (first ∷ trail) place = trailed_more c (made_at c s first) trail place

by_answer : (c : Callers) (s : State) (trail : List ℕ) (place : ℕ) (step : Step) (reply : Result Reply Refusal)
    → slice_get c.steps.items place ≡ Some step → (step_outcome (trailed c s trail) step.who.0 step.call).reply ≡ reply
    → trailed c s (trail_after trail place reply) ≡ (step_outcome (trailed c s trail) step.who.0 step.call).after
by_answer c s trail place step (Ok reply) at is =
    trailed_more c s trail place ∙ ap (λ (o : Option Step). option_map_or (λ step. (step_outcome (trailed c s trail) step.who.0 step.call).after) o (trailed c s trail)) at
by_answer c s trail place step (Err refusal) at is = sym (refused (trailed c s trail) step.who.0 step.call refusal is)

-- what is kept of a step leads to where it led
pub trailed_after : (c : Callers) (s : State) (trail : List ℕ) (place : ℕ) (step : Step) → slice_get c.steps.items place ≡ Some step
    → trailed c s (trail_after trail place (step_outcome (trailed c s trail) step.who.0 step.call).reply) ≡ (step_outcome (trailed c s trail) step.who.0 step.call).after
trailed_after c s trail place step at = by_answer c s trail place step (step_outcome (trailed c s trail) step.who.0 step.call).reply at refl

-- the moment after a step represents what the machine comes to
pub after_is : (c : Callers) (s k : State) (moment next : Moment) (caller place : ℕ) (step : Step) (reply : Result Reply Refusal)
    → slice_get c.steps.items place ≡ Some step → k ≡ trailed c s moment.trail.items → reply ≡ (step_outcome k step.who.0 step.call).reply
    → next.made.items ≡ slice_set moment.made.items caller (slice_index moment.made.items caller + 1)
    → map string_bytes next.answers.items ≡ slice_set (map string_bytes moment.answers.items) caller (answer_line (slice_index_or (map string_bytes moment.answers.items) caller []) reply)
    → next.trail.items ≡ trail_after moment.trail.items place reply
    → seen_from c s next ≡ after (seen_from c s moment) caller (step_outcome k step.who.0 step.call)
after_is c s k moment next caller place step reply at there replied made answers trail =
    let told = answers
    ∙ ap (λ (r : Result Reply Refusal). slice_set (map string_bytes moment.answers.items) caller (answer_line (slice_index_or (map string_bytes moment.answers.items) caller []) r)) replied in
    let now = replied ∙ ap (λ (x : State). (step_outcome x step.who.0 step.call).reply) there in
    let led = ap (λ (t : List ℕ). trailed c s t) trail
    ∙ (ap (λ (r : Result Reply Refusal). trailed c s (trail_after moment.trail.items place r)) now
    ∙ (trailed_after c s moment.trail.items place step at
    ∙ ap (λ (x : State). (step_outcome x step.who.0 step.call).after) (sym there))) in
    λ i. record { made = made i; answers = told i; state = led i }

-- and each caller has its place there
pub fits_after : (c : Callers) (moment next : Moment) (caller count : ℕ) (told : List ℕ) → IsMoment c moment
    → next.made.items ≡ slice_set moment.made.items caller count
    → map string_bytes next.answers.items ≡ slice_set (map string_bytes moment.answers.items) caller told
    → IsMoment c next
fits_after c moment next caller count told fits made answers = record {
  made = ap (λ (xs : List ℕ). length xs) made ∙ (length-set moment.made.items caller count ∙ fits.made);
  answers = sym (mapped string_bytes next.answers.items)
      ∙ (ap (λ (xs : List (List ℕ)). length xs) answers
      ∙ (length-set (map string_bytes moment.answers.items) caller told
      ∙ (mapped string_bytes moment.answers.items ∙ fits.answers)));
}

-- a caller that is held makes no step, and one that isn't makes it
pub blocked : (as_picked : Bool) (seen : Seen) (n : ℕ) (step : Step) → is_held as_picked seen.state step.who.0 ≡ true → step_of as_picked seen n step ≡ None
blocked as_picked seen n step h = by (is_held as_picked seen.state step.who.0) h where
  by : (b : Bool) → b ≡ true → (if b then None else Some (after seen n (step_outcome seen.state step.who.0 step.call))) ≡ None
  by true e = refl
  by false e = cc

pub makes : (as_picked : Bool) (seen : Seen) (n : ℕ) (step : Step) → is_held as_picked seen.state step.who.0 ≡ false → step_of as_picked seen n step ≡ Some (after seen n (step_outcome seen.state step.who.0 step.call))
makes as_picked seen n step h = by (is_held as_picked seen.state step.who.0) h where
  by : (b : Bool) → b ≡ false → (if b then None else Some (after seen n (step_outcome seen.state step.who.0 step.call))) ≡ Some (after seen n (step_outcome seen.state step.who.0 step.call))
  by true e = cc
  by false e = refl
