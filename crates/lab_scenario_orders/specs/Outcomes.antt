-- The outcomes that all orders of callers end in.
use Rattle.std.specs.Prelude.{ℕ, ◌≡◌, ◌≤◌, ◌<◌, ◌+◌, ◌⊎◌, true, false, List, [], length, map, All, AllPairs}
use Rattle.evl_kernel.specs.state.States.{Handler}
use Rattle.lab_orders.specs.Firsts.{AreFirsts}
use Rattle.lab_orders.specs.Fronts.{IsGone}
use Rattle.lab_orders.specs.Machines.{orders, runs}
use Rattle.lab_orders.specs.Tallies.{AreDistinct, told_weight}
use Rattle.lab_orders.specs.Weights.{count_limit, total}
use Rattle.lab_orders.specs.declared.levels.OrdersError.{OrdersError}
use Rattle.lab_orders.specs.declared.levels.OrdersError.TheVariants.{Memory, Count}
use Rattle.lab_orders.specs.declared.tallies.Tally.{Tally}
use Rattle.lab_scenario_orders.specs.Callers.{first_seen, machine}
use Rattle.lab_scenario_orders.specs.Firsts.{LeadThere}
use Rattle.lab_scenario_orders.specs.Moments.{seen_at}
use Rattle.lab_scenario_orders.specs.Told.{told_text}
use Rattle.lab_scenario_orders.specs.Watches.{is_noted_at}
use Rattle.lab_scenario_orders.specs.declared.callers.Callers.{Callers}
use Rattle.lab_scenario_orders.specs.declared.outcomes.Outcomes.{Outcomes}
use Rattle.lab_scenario_orders.specs.declared.watches.Watch.{Watch}

-- how many steps the order of each outcome has
abbrev pub lengths : List Tally → List ℕ
lengths outcomes = map (λ outcome. length outcome.order.items) outcomes

-- the outcomes of shorter orders stand first
abbrev pub AreRising : List Tally → Type 0
AreRising outcomes = AllPairs (λ one other. one ≤ other) (lengths outcomes)

-- and none has more steps than this
pub record AreRisen (k : ℕ) (outcomes : List Tally) : Type 0 where
  pub rise : AreRising outcomes
  pub below : All (λ n. n ≤ k) (lengths outcomes)

-- Why outcomes can't be reported: memory ran out; or more runs of so many steps, or more orders of fewer, than a count can hold.
abbrev pub CanNotTell : Callers → List Handler → OrdersError → Type 0
CanNotTell c bank Memory = Unit {0}
CanNotTell c bank Count =
    (k : ℕ) × ((count_limit ≤ length (runs (machine c) (first_seen c bank) k)) ⊎ (count_limit ≤ length (orders (machine c) (first_seen c bank) k)))

-- rule: Each outcome of a scenario's callers is reported once, with how many orders end so; together these are all
--   orders. Orders are merged only if their kernels are alike and their callers were answered alike.
--   also: Outcomes.{distinct, rise, count, asked, gone, whole, cut, more}
--   clauses: outcomes_of; ask_all
--   rows: inband_threads_step_while_nobody_is_picked; two_locks_can_end_stuck; two_of_six_orders_end_stuck;
--   unattached_callers_step_at_any_time; who_is_not_picked_makes_no_step; who_never_goes_stays_picked
-- The outcomes of all orders of callers over a bank.
pub record AreOutcomes (c : Callers) (bank : List Handler) (watches : List Watch) (most : ℕ) (found : Outcomes) : Type 0 where
  -- whatever is counted of what is reported: the outcomes, each as often as its count says, give what all orders give
  pub counted : (f : List ℕ → ℕ) → told_weight f found.all.items ≡ total (λ seen. f (told_text c seen)) (orders (machine c) (first_seen c bank) found.steps)
  -- no two are reported alike
  pub distinct : AreDistinct found.all.items
  -- rule: The order given for an outcome leads there, and nobody can step there. The report has the counts and, of each
  --   outcome, what is reported, its order, and that order as a scenario.
  --   clauses: outcomes_of; write_report; scenario_of
  --   rows: a_report_begins_with_counts; steps_that_are_set_up_become_steps; what_is_told_of_outcomes_is_asked
  -- the order of each leads there from the first moment on, and nobody can make a step more; the shortest stand first
  pub lead : LeadThere c (first_seen c bank) found.all.items
  pub rise : AreRising found.all.items
  -- there are so many orders
  pub count : found.count ≡ length (orders (machine c) (first_seen c bank) found.steps)
  -- of what is asked of moments, the first order that leads to one where it is noted, or that none does
  pub firsts : AreFirsts (machine c) (first_seen c bank) (λ n seen. is_noted_at watches n seen.state) found.steps 0 found.firsts.items
  pub watched : length found.firsts.items ≡ length watches
  -- no number of steps that leads to more than `most` moments was gone on from, and so many moments were gone through
  pub asked : found.steps ≤ length c.steps.items + 1
  pub gone : IsGone (machine c) (seen_at c bank) (first_seen c bank) most found.steps found.moments
  -- If nothing was cut off, no run has as many steps; else there is one, and more than `most` runs have, or it went
  -- further than all steps together.
  pub whole : found.whole ≡ true → runs (machine c) (first_seen c bank) found.steps ≡ []
  pub cut : found.whole ≡ false → (length c.steps.items < found.steps) ⊎ (most < length (runs (machine c) (first_seen c bank) found.steps))
  pub more : found.whole ≡ false → 0 < length (runs (machine c) (first_seen c bank) found.steps)
