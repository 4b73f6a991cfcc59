-- Answers that are forgotten change no step.
use Rattle.std.proofs.Common.{◌≡◌, ◌≤◌, ℕ, zero, suc, ◌+◌, arith, inl, Bool, true, false, if◌then◌else◌, List, [], ◌∷◌, length, map, ap, ap₂, refl, subst, sym, ◌∙◌}
use Rattle.std.specs.Prelude.{Option, Some, None, option_and_then, option_map, slice_get, slice_index, slice_index_or, slice_set, unwrap_or}
use Rattle.evl_kernel.specs.histories.Replays.{Outcome, step_outcome}
use Rattle.evl_scenario.specs.declared.steps.Step.{Step}
use Rattle.evl_kernel.specs.state.States.{Handler}
use Rattle.lab_orders.specs.Laws.{IsSeenOf}
use Rattle.lab_orders.specs.Machines.{orders, runs}
use Rattle.lab_orders.specs.Weights.{count_limit, total}
use Rattle.lab_orders.specs.declared.levels.OrdersError.{OrdersError}
use Rattle.lab_orders.specs.declared.levels.OrdersError.TheVariants.{Memory, Count}
use Rattle.lab_orders.proofs.SeeingLaws.{what_is_seen}
use Rattle.lab_orders.proofs.Totals.{total_of_ones}
use Rattle.lab_scenario_orders.specs.AskingAlone.{asked_machine, forget, kept_from, kept_one}
use Rattle.lab_scenario_orders.specs.Callers.{Seen, after, answer_line, first_seen, is_held, machine, next_step, step_of}
use Rattle.lab_scenario_orders.specs.Outcomes.{CanNotTell}
use Rattle.lab_scenario_orders.specs.declared.callers.Caller.{Caller}
use Rattle.lab_scenario_orders.specs.declared.callers.Callers.{Callers}

module _ (told : List Bool) where
  kept_line : (line : List ℕ → List ℕ) (n : ℕ) (answers : List ℕ) → kept_one told n (line (kept_one told n answers)) ≡ kept_one told n (line answers)
  kept_line line n answers = by (unwrap_or (slice_get told n) true)
    where
      by : (b : Bool) → (if b then line (if b then answers else []) else []) ≡ (if b then line answers else [])
      by true = refl
      by false = refl

  kept_twice : (n : ℕ) (all : List (List ℕ)) → kept_from told n (kept_from told n all) ≡ kept_from told n all
  kept_twice n [] = refl
  kept_twice n (answers ∷ rest) = ap₂ (λ (x : List ℕ) (xs : List (List ℕ)). x ∷ xs) (kept_line (λ x. x) n answers) (kept_twice (n + 1) rest)

  kept_set : (line : List ℕ → List ℕ) (n : ℕ) (all : List (List ℕ)) (i : ℕ)
      → kept_from told n (slice_set (kept_from told n all) i (line (slice_index_or (kept_from told n all) i []))) ≡ kept_from told n (slice_set all i (line (slice_index_or all i [])))
  kept_set line n [] i = refl
  kept_set line n (answers ∷ rest) zero = ap₂ (λ (x : List ℕ) (xs : List (List ℕ)). x ∷ xs) (kept_line line n answers) (kept_twice (n + 1) rest)
  kept_set line n (answers ∷ rest) (suc i) = ap₂ (λ (x : List ℕ) (xs : List (List ℕ)). x ∷ xs) (kept_line (λ x. x) n answers) (kept_set line (n + 1) rest i)

  after_seen : (seen : Seen) (n : ℕ) (o : Outcome) → forget told (after (forget told seen) n o) ≡ forget told (after seen n o)
  after_seen seen n o =
      ap (λ (all : List (List ℕ)). record { made = slice_set seen.made n (slice_index seen.made n + 1); answers = all; state = o.after })
      (kept_set (λ line. answer_line line o.reply) 0 seen.answers n)

  step_seen : (as_picked : Bool) (seen : Seen) (n : ℕ) (step : Step)
      → option_map (forget told) (step_of as_picked (forget told seen) n step) ≡ option_map (forget told) (step_of as_picked seen n step)
  step_seen as_picked seen n step =
      by (is_held as_picked seen.state step.who.0) (after (forget told seen) n (step_outcome seen.state step.who.0 step.call)) (after seen n (step_outcome seen.state step.who.0 step.call))
      (after_seen seen n (step_outcome seen.state step.who.0 step.call))
    where
      by : (b : Bool) (x y : Seen) → forget told x ≡ forget told y → option_map (forget told) (if b then None else Some x) ≡ option_map (forget told) (if b then None else Some y)
      by true x y e = refl
      by false x y e = ap (λ (s : Seen). Some s) e

  pub forgets : (c : Callers) → IsSeenOf (machine c) (asked_machine c told) (forget told)
  forgets c = record {
    callers = refl;
    go = λ seen n. by seen n (next_step c n (slice_index seen.made n));
  }
    where
      by : (seen : Seen) (n : ℕ) (o : Option Step)
          → option_map (forget told) (option_and_then (step_of c.as_picked (forget told seen) n) o) ≡ option_map (forget told) (option_and_then (step_of c.as_picked seen n) o)
      by seen n None = refl
      by seen n (Some step) = step_seen c.as_picked seen n step

kept_none : (told : List Bool) (n : ℕ) → kept_one told n [] ≡ []
kept_none told n = by (unwrap_or (slice_get told n) true) []
  where
    by : (b : Bool) (none : List ℕ) → (if b then none else none) ≡ none
    by true none = refl
    by false none = refl

-- each caller has its place
pub kept_long : (told : List Bool) (n : ℕ) (all : List (List ℕ)) → length (kept_from told n all) ≡ length all
kept_long told n [] = refl
kept_long told n (answers ∷ rest) = ap suc (kept_long told (n + 1) rest)

module _ (c : Callers) (bank : List Handler) (told : List Bool) where
  none_kept : (n : ℕ) (callers : List Caller) → kept_from told n (map (λ caller. []) callers) ≡ map (λ caller. []) callers
  none_kept n [] = refl
  none_kept n (caller ∷ callers) = ap₂ (λ (x : List ℕ) (xs : List (List ℕ)). x ∷ xs) (kept_none told n) (none_kept (n + 1) callers)

  -- before the first step there is nothing to forget
  first_is : forget told (first_seen c bank) ≡ first_seen c bank
  first_is =
      ap (λ (all : List (List ℕ)). record { made = (first_seen c bank).made; answers = all; state = (first_seen c bank).state }) (none_kept 0 c.callers.items)

  pub orders_counted : (f : Seen → ℕ) (k : ℕ) → total f (orders (asked_machine c told) (first_seen c bank) k) ≡ total (λ seen. f (forget told seen)) (orders (machine c) (first_seen c bank) k)
  orders_counted f k =
      subst (λ (s : Seen). total f (orders (asked_machine c told) s k) ≡ total (λ seen. f (forget told seen)) (orders (machine c) (first_seen c bank) k)) first_is
      ((what_is_seen (machine c) (asked_machine c told) (forget told) (forgets told c) (first_seen c bank) k).each_order f)

  pub runs_counted : (f : Seen → ℕ) (k : ℕ) → total f (runs (asked_machine c told) (first_seen c bank) k) ≡ total (λ seen. f (forget told seen)) (runs (machine c) (first_seen c bank) k)
  runs_counted f k =
      subst (λ (s : Seen). total f (runs (asked_machine c told) s k) ≡ total (λ seen. f (forget told seen)) (runs (machine c) (first_seen c bank) k)) first_is
      ((what_is_seen (machine c) (asked_machine c told) (forget told) (forgets told c) (first_seen c bank) k).each_run f)

  -- of a number of steps there are more runs than a count can hold, where there are as many of the machine that forgets
  pub runs_uncounted : (e : OrdersError) → (e ≡ Count → (k : ℕ) × (count_limit ≤ length (runs (asked_machine c told) (first_seen c bank) k))) → CanNotTell c bank e
  runs_uncounted Memory f = tt
  runs_uncounted Count f =
      let many = f refl in (
        many.0,
        inl (omega (
          arith,
          many.1,
          total_of_ones (runs (asked_machine c told) (first_seen c bank) many.0),
          runs_counted (λ seen. 1) many.0,
          total_of_ones (runs (machine c) (first_seen c bank) many.0),
        )),
      )
