-- C's view of orders, by what each call of the body answers.
use Rattle.std.proofs.Common.{◌≡◌, ◌∙◌, ◌-◌, ℕ, ne_eqb, Bor, List, Option, Some, None, IsSomeAnd, Result, Ok, Err, IfOk, option_map, position, slice_get, string_bytes, ap, refl}
use Rattle.lab_orders.specs.declared.tallies.Tally.{Tally}
use Rattle.lab_scenario_orders.specs.Answers.{first_impossible}
use Rattle.lab_scenario_orders.specs.Asks.{is_against}
use Rattle.lab_scenario_orders.specs.declared.asks.Ask.{Ask}
use Rattle.lab_scenario_orders.specs.declared.asks.Never.{Never}
use Rattle.lab_scenario_orders.specs.declared.callers.Callers.{Callers}
use Rattle.lab_scenario_orders.specs.declared.outcomes.Outcomes.{Outcomes}
use Rattle.evl_c.specs.Orders.{Answer, answer_in, first_against, impossible_in, outcomes_answer, refuses, scenario_answer}
use Rattle.evl_c.specs.declared.orders.Told.{Told}

-- an answer that is so in the one way is so in the other
pub answered_as : (E : Type 0) (Was Is : Answer → Type 0) (r : Result Told E) → ((a : Answer) → Was a → Is a) → IfOk r (λ told. Was (answer_in told)) → IfOk r (λ told. Is (answer_in told))
answered_as E Was Is (Ok told) same h = same (answer_in told) h
answered_as E Was Is (Err e) same h = tt

pub against_is : (asks : Ask) (outcomes : List Tally) → position (λ outcome. is_against asks (string_bytes outcome.told)) outcomes ≡ first_against asks outcomes
unfolding first_against
against_is asks outcomes = refl

pub impossible_is : (c : Callers) (asks : Ask) → first_impossible c.steps.items asks.never.items ≡ impossible_in c asks
unfolding impossible_in
impossible_is c asks = refl

pub found_impossible : (E : Type 0) (c : Callers) (asks : Ask) (r : Result (Option (Bor Never)) E) → IfOk r (λ found. option_map (λ never. never.now) found ≡ first_impossible c.steps.items asks.never.items)
    → IfOk r (λ found. option_map (λ never. never.now) found ≡ impossible_in c asks)
found_impossible E c asks (Ok found) h = h ∙ impossible_is c asks
found_impossible E c asks (Err e) h = tt

-- a refusal with words
pub refused_words : (a : Answer) (told : List ℕ) (words : Option (List ℕ)) → IsSomeAnd words (λ w. told ≡ w) → a ≡ refuses 10 0 told → IsSomeAnd words (λ w. a ≡ refuses 10 0 w)
refused_words a told (Some w) same is = is ∙ ap (refuses 10 0) same
refused_words a told None same is = absurd same

-- one outcome is asked for, and not the report
pub one_answer : (one : ℕ) (c : Callers) (asks : Ask) (found : Outcomes) (place : Option ℕ) → (one ≡ 0 → ⊥)
    → scenario_answer c asks found place (slice_get found.all.items (one - 1)) ≡ outcomes_answer one c asks found place
one_answer one c asks found place h = rw (ne_eqb one 0 h) refl
