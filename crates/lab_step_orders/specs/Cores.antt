-- How callers come by the core, in which the kernel is.
use Rattle.std.specs.Prelude.{ℕ, ◌==◌, Bool, true, false, Option, Some, None, if◌then◌else◌, is_some, option_map, slice_get, slice_index_or}
use Rattle.std.specs.Option.{option_map_or}
use Rattle.evl_base.specs.declared.refusal.Refusal.TheVariants.{CoreBusy}
use Rattle.evl_kernel.specs.state.States.{State}
use Rattle.lab_step_orders.specs.Programs.{refuses}
use Rattle.lab_step_orders.specs.Visits.{goes_on, visit_turn}
use Rattle.lab_step_orders.specs.declared.crews.Crew.{Crew}
use Rattle.lab_step_orders.specs.declared.steps.Ahead.{Ahead}
use Rattle.lab_step_orders.specs.declared.steps.Ahead.TheVariants.{Turns, Visits}
use Rattle.lab_step_orders.specs.declared.steps.Asked.{Asked}
use Rattle.lab_step_orders.specs.declared.steps.Asked.TheVariants as asked
use Rattle.lab_step_orders.specs.declared.steps.CoreChange.{CoreChange}
use Rattle.lab_step_orders.specs.declared.steps.CoreChange.TheVariants.{Same, Takes, Ends, Gives}
use Rattle.lab_step_orders.specs.declared.steps.CoreUse.{CoreUse}
use Rattle.lab_step_orders.specs.declared.steps.CoreUse.TheVariants.{Whole, Lasts, Tries}
use Rattle.lab_step_orders.specs.declared.steps.Place.{Place}
use Rattle.lab_step_orders.specs.declared.steps.Place.TheVariants.{Begins}
use Rattle.lab_step_orders.specs.declared.steps.Taken.{Taken}
use Rattle.lab_step_orders.specs.declared.steps.Then.TheVariants.{Stands}
use Rattle.lab_step_orders.specs.declared.steps.Turn.{Turn}
use Rattle.lab_step_orders.specs.declared.steps.WaitChange.TheVariants as wait

-- how the next call of a caller that has made so many comes by the core
abbrev pub use_of : Crew → ℕ → ℕ → CoreUse
use_of c k made = option_map_or (λ caller. slice_index_or caller.uses.items made Whole) (slice_get c.callers.items k) Whole

-- this caller has it, and has visited the kernel
abbrev pub has_core : Option Taken → ℕ → Bool
has_core core k = option_map_or (λ taken. taken.who == k) core false

abbrev pub is_done : Option Taken → Bool
is_done core = option_map_or (λ taken. taken.is_done) core false

-- who has it after a turn of the caller k
abbrev pub core_after : CoreChange → ℕ → Option Taken → Option Taken
core_after Same k core = core
core_after Takes k core = Some (record { who = k; is_done = false })
core_after Ends k core = Some (record { who = k; is_done = true })
core_after Gives k core = None

-- a turn that takes it, or gives it: the call goes on where it stood
abbrev pub core_turn : CoreChange → Place → Turn
core_turn change place = record { step = None; visit = None; core = change; wait = wait.Same; then = Stands place }

-- a turn by which the core's holder comes nearer to the give
abbrev pub with_core : CoreChange → Turn → Turn
with_core change turn = record turn { core = change }

-- ---- a caller that hasn't the core

-- the wait goes on that a visit would end
abbrev pub is_early : State → ℕ → Asked → Bool
is_early s k (asked.End mutex word) = goes_on s k
is_early s k asked.Finish = goes_on s k
is_early s k (asked.Hand mutex) = false
is_early s k (asked.Begin mutex until word) = false
is_early s k (asked.Step place) = false

-- the take of a visit; where another has the core it is waited for, or the call refused
abbrev pub take_turn : CoreUse → Bool → Place → Option Turn
take_turn way false place = Some (core_turn Takes place)
take_turn Tries true place = Some (refuses CoreBusy)
take_turn Lasts true place = None
take_turn Whole true place = None

-- a caller visits the kernel in one turn, or takes the core for it
abbrev pub visit_begun : Crew → State → ℕ → CoreUse → Bool → Place → Asked → Option Turn
visit_begun c s k Whole taken place visit = if taken then None else visit_turn c s k visit
visit_begun c s k Lasts taken place visit = if is_early s k visit then None else take_turn Lasts taken place
visit_begun c s k Tries taken place visit = if is_early s k visit then None else take_turn Tries taken place

abbrev pub begun_turn : Crew → State → ℕ → CoreUse → Bool → Place → Option Ahead → Option Turn
begun_turn c s k way taken place None = None
begun_turn c s k way taken place (Some (Turns turn)) = Some turn
begun_turn c s k way taken place (Some (Visits visit)) = visit_begun c s k way taken place visit

-- ---- and one that has it

-- a call of the kernel alone gives the core, too; after a step on a mutex the give is a turn of its own
abbrev pub ended_by : Asked → CoreChange
ended_by (asked.Step place) = Gives
ended_by asked.Finish = Gives
ended_by (asked.Hand mutex) = Ends
ended_by (asked.Begin mutex until word) = Ends
ended_by (asked.End mutex word) = Ends

abbrev pub held_turn : Crew → State → ℕ → Bool → Option Ahead → Option Turn
held_turn c s k true ahead = Some (core_turn Gives Begins)
held_turn c s k false None = None
held_turn c s k false (Some (Turns turn)) = Some (with_core Ends turn)
held_turn c s k false (Some (Visits visit)) = option_map (with_core (ended_by visit)) (visit_turn c s k visit)

-- rule: A visit is one turn while nobody has the core; or it takes the core by a turn before it, and after a step at a
--   mutex's word gives it by one of its own. If another has the core the take is waited for, or the call is `CoreBusy`.
--   also: Cores.{visit_begun, held_turn}
--   clauses: step_outcomes_of
--   rows: core_is_taken_and_given_by_turns; finish_without_a_wait_finds_the_core_taken;
--   who_finds_the_core_taken_gives_up
-- the turn of a caller that is here and for whom this is ahead
abbrev pub turn_of : Crew → State → ℕ → CoreUse → Option Taken → Place → Option Ahead → Option Turn
turn_of c s k way core place ahead = if has_core core k then held_turn c s k (is_done core) ahead else begun_turn c s k way (is_some core) place ahead
