-- The records that are kept of callers at one moment.
use Rattle.std.specs.Prelude.{ℕ, ◌≡◌, Bool, true, nat_lt, length, List, [], ◌∷◌, ◌++◌, map, Option, Some, None, string_bytes}
use Rattle.std.specs.Option.{option_map_or}
use Rattle.lab_step_orders.specs.Seen.{Seen}
use Rattle.lab_step_orders.specs.Visits.{state_begun, trailed}
use Rattle.lab_step_orders.specs.Words.{Shared}
use Rattle.lab_step_orders.specs.declared.crews.Crew.{Crew}
use Rattle.lab_step_orders.specs.declared.kernels.Visited.{Visited}
use Rattle.lab_step_orders.specs.declared.moments.Moment.{Moment}
use Rattle.lab_step_orders.specs.declared.shared.SharedWord.{SharedWord}
use Rattle.lab_step_orders.specs.declared.steps.Taken.{Taken}
use Rattle.lab_step_orders.specs.declared.steps.Visit.{Visit}

abbrev pub shared_of : SharedWord → Shared
shared_of shared = record { word = shared.word; held = shared.held.items }

-- what a moment means
abbrev pub seen_of : Crew → Moment → Seen
seen_of c moment = record {
  gates = map shared_of moment.gates.items;
  mutexes = map shared_of moment.mutexes.items;
  places = moment.places.items;
  made = moment.made.items;
  answers = map string_bytes moment.answers.items;
  waits = moment.waits.items;
  core = moment.core;
  state = trailed c (state_begun c) moment.trail.items;
}

-- a trail with a visit more, if there is one
abbrev pub trail_after : List Visited → ℕ → Option Visit → List Visited
trail_after trail who None = trail
trail_after trail who (Some visit) = trail ++ (record { who = who; visit = visit }) ∷ []

-- one of so many callers has the core, if it is taken
abbrev pub is_within : ℕ → Option Taken → Bool
is_within n core = option_map_or (λ taken. nat_lt taken.who n) core true

-- each caller has its place there
pub record IsMoment (c : Crew) (moment : Moment) : Type 0 where
  pub places : length moment.places.items ≡ length c.callers.items
  pub made : length moment.made.items ≡ length c.callers.items
  pub answers : length moment.answers.items ≡ length c.callers.items
  pub waits : length moment.waits.items ≡ length c.callers.items
  pub core : is_within (length c.callers.items) moment.core ≡ true
