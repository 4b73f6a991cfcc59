-- Callers whose visits are whole end as those do that take the core for them by a turn of its own.
use Rattle.std.specs.Prelude.{ℕ, ◌≡◌, ◌≢◌, List, map, None}
use Rattle.evl_base.specs.declared.stage.Stage.{Stage}
use Rattle.lab_step_orders.specs.Cores.{use_of}
use Rattle.lab_step_orders.specs.Outcomes.{LeadsTo}
use Rattle.lab_step_orders.specs.Seen.{first_seen}
use Rattle.lab_step_orders.specs.declared.calls.WordCall.{WordCall}
use Rattle.lab_step_orders.specs.declared.crews.Crew.{Crew}
use Rattle.lab_step_orders.specs.declared.crews.CrewCaller.{CrewCaller}
use Rattle.lab_step_orders.specs.declared.steps.CoreUse.TheVariants.{Whole, Tries}

-- what a caller does, however it comes by the core
abbrev pub calls_of : CrewCaller → Stage × List WordCall
calls_of caller = (caller.stage, caller.calls.items)

-- the second are the same callers over the same board, and each of their visits is one turn
pub record AreWhole (c w : Crew) : Type 0 where
  pub board : w.board ≡ c.board
  pub setup : w.setup ≡ c.setup
  pub steps : w.steps ≡ c.steps
  pub what_if : w.what_if ≡ c.what_if
  pub calls : map calls_of w.callers.items ≡ map calls_of c.callers.items
  pub whole : (k made : ℕ) → use_of w k made ≡ Whole

-- no call gives up where another has the core, so none is answered `CoreBusy`
abbrev pub NobodyGivesUp : Crew → Type 0
NobodyGivesUp c = (k made : ℕ) → use_of c k made ≢ Tries

-- an order ends where this is reported
abbrev pub EndsSo : Crew → List ℕ → Type 0
EndsSo c told = (order : List ℕ) × LeadsTo c (first_seen c) told order

-- rule: If callers make the right steps, each outcome of whole visits is one of visits that take the core by a turn of
--   their own; where none of these gives up, they have no other.
--   clauses: visits_are_whole
--   rows: core_is_taken_and_given_by_turns
-- For callers that make the right steps each outcome of whole visits is one of any visits; if nobody gives up, they have no other.
abbrev pub VisitsAreWhole : Type 0
VisitsAreWhole = (c w : Crew) (told : List ℕ) → AreWhole c w → c.what_if ≡ None
    → (EndsSo w told → EndsSo c told) × (NobodyGivesUp c → EndsSo c told → EndsSo w told)
