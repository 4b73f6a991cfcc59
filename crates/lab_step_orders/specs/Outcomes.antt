-- The outcomes that all orders of atomic steps end in.
use Rattle.std.specs.Prelude.{ℕ, ◌≡◌, ◌≤◌, ◌<◌, ◌⊎◌, true, false, List, [], ◌++◌, length, map, All, AllPairs, Some, string_bytes}
use Rattle.lab_orders.specs.Firsts.{AreFirsts}
use Rattle.lab_orders.specs.Fronts.{IsGone}
use Rattle.lab_orders.specs.Machines.{is_over, led_along, orders, runs}
use Rattle.lab_orders.specs.Tallies.{AreDistinct, told_weight}
use Rattle.lab_orders.specs.Weights.{count_limit, total}
use Rattle.lab_orders.specs.declared.levels.OrdersError.{OrdersError}
use Rattle.lab_orders.specs.declared.levels.OrdersError.TheVariants.{Memory, Count}
use Rattle.lab_orders.specs.declared.tallies.Tally.{Tally}
use Rattle.lab_step_orders.specs.Facts.{is_noted_at}
use Rattle.lab_step_orders.specs.Moments.{seen_of}
use Rattle.lab_step_orders.specs.Seen.{Seen, first_seen, machine}
use Rattle.lab_step_orders.specs.Told.{caller_line, lines_below, mutex_line, resting_line, stax_line, stuck_line}
use Rattle.lab_step_orders.specs.Words.{Shared}
use Rattle.lab_step_orders.specs.declared.crews.Crew.{Crew}
use Rattle.lab_step_orders.specs.declared.outcomes.StepOutcomes.{StepOutcomes}

abbrev pub staxes_text : List Shared → List ℕ
staxes_text gates = lines_below (stax_line gates) (length gates)

abbrev pub mutexes_text : List Shared → List ℕ
mutexes_text mutexes = lines_below (mutex_line mutexes) (length mutexes)

-- what is reported where callers and words stand so: who is stuck, who waits with no call left, what each caller with calls was
-- answered, and how the words stand
abbrev pub told_text : Crew → Seen → List ℕ
told_text c s =
    lines_below (stuck_line c s.made s.waits) (length c.callers.items)
    ++ (lines_below (resting_line c s.made s.waits s.state) (length c.callers.items)
    ++ (lines_below (caller_line c s.answers) (length c.callers.items) ++ (staxes_text s.gates ++ mutexes_text s.mutexes)))

-- this order leads from here to where nobody can make a step, and just this is reported there
pub record LeadsTo (c : Crew) (s : Seen) (told order : List ℕ) : Type 0 where
  pub end : Seen
  pub leads : led_along (machine c) s order ≡ Some end
  pub over : is_over (machine c) end ≡ true
  pub tells : told ≡ told_text c end

-- the order of each outcome leads there
abbrev pub LeadThere : Crew → Seen → List Tally → Type 0
LeadThere c s outcomes = All (λ outcome. LeadsTo c s (string_bytes outcome.told) outcome.order.items) outcomes

-- how many steps the order of each outcome has
abbrev pub lengths : List Tally → List ℕ
lengths outcomes = map (λ outcome. length outcome.order.items) outcomes

-- the outcomes of shorter orders stand first
abbrev pub AreRising : List Tally → Type 0
AreRising outcomes = AllPairs (λ one other. one ≤ other) (lengths outcomes)

-- and none has more steps than this
pub record AreRisen (k : ℕ) (outcomes : List Tally) : Type 0 where
  pub rise : AreRising outcomes
  pub below : All (λ n. n ≤ k) (lengths outcomes)

-- Why outcomes can't be reported: memory ran out; or more runs of so many steps, or more orders of fewer, than a count can hold.
abbrev pub CanNotTell : Crew → OrdersError → Type 0
CanNotTell c Memory = Unit {0}
CanNotTell c Count = (k : ℕ) × ((count_limit ≤ length (runs (machine c) (first_seen c) k)) ⊎ (count_limit ≤ length (orders (machine c) (first_seen c) k)))

-- rule: Outcomes of the callers' atomic steps are reported as those of a scenario's callers. Orders are merged only if
--   words, holders, places, waits, answers and who has the core are the same, and the kernels are alike. An end's
--   report says who is stuck, who waits with no call left, each caller's answers, and the words. There are none only
--   for want of memory, or if more runs or orders than a count holds are there.
--   also: Outcomes.{CanNotTell, told_text, distinct, lead, rise, count, gone, whole, cut, more}
--   clauses: step_outcomes_of
--   rows: three_that_enter_a_stax_end_in_seventeen_ways; two_rounds_of_three_callers_are_counted;
--   two_that_enter_a_stax_may_race; who_never_finishes_waits_at_last
-- The outcomes of all orders of the callers' steps.
pub record AreOutcomes (c : Crew) (most : ℕ) (found : StepOutcomes) : Type 0 where
  -- whatever is counted of what is reported: the outcomes, each as often as its count says, give what all orders give
  pub counted : (f : List ℕ → ℕ) → told_weight f found.all.items ≡ total (λ s. f (told_text c s)) (orders (machine c) (first_seen c) found.steps)
  -- no two are reported alike
  pub distinct : AreDistinct found.all.items
  -- the order of each leads there from the first moment on, and nobody can make a step more; the shortest stand first
  pub lead : LeadThere c (first_seen c) found.all.items
  pub rise : AreRising found.all.items
  -- there are so many orders
  pub count : found.count ≡ length (orders (machine c) (first_seen c) found.steps)
  -- no number of steps that leads to more than `most` moments was gone on from, and so many moments were gone through
  pub gone : IsGone (machine c) (seen_of c) (first_seen c) most found.steps found.moments
  -- where nothing was cut off, no run has as many steps; else there is one, and more than `most` runs have, or no number
  -- of 64 bits counts a step more
  pub whole : found.whole ≡ true → runs (machine c) (first_seen c) found.steps ≡ []
  pub cut : found.whole ≡ false → (found.steps ≡ 18446744073709551615) ⊎ (most < length (runs (machine c) (first_seen c) found.steps))
  pub more : found.whole ≡ false → 0 < length (runs (machine c) (first_seen c) found.steps)
  -- of each question about moments, the first order to one as it looks for, among the runs that were gone through
  pub asked : AreFirsts (machine c) (first_seen c) (is_noted_at c) found.steps 0 found.firsts.items
  pub each : length found.firsts.items ≡ length c.watches.items
