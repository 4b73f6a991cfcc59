-- Which task sets the analysis of response times covers.
use Rattle.std.specs.Prelude.{ℕ, ◌+◌, ◌==◌, nat_lt, Bool, true, false, not, List, [], ◌∷◌, length, Option, Some, None, slice_get, if◌then◌else◌}
use Rattle.std.specs.Option.{is_none, is_some, option_map_or}
use Rattle.std.specs.List.{list_any}
use Rattle.evl_base.specs.declared.mutex_kind.MutexKind.{MutexKind}
use Rattle.evl_base.specs.declared.mutex_kind.MutexKind.TheVariants.{Ceiling}
use Rattle.evl_base.specs.declared.policy.Policy.{Policy}
use Rattle.evl_base.specs.declared.policy.Policy.TheVariants.{Fifo}
use Rattle.evl_base.specs.declared.stage.Stage.{Stage}
use Rattle.evl_base.specs.declared.stage.Stage.TheVariants as stage
use Rattle.lab_tasks.specs.declared.acts.Act.{Act}
use Rattle.lab_tasks.specs.declared.acts.Act.TheVariants.{Lock}
use Rattle.lab_tasks.specs.declared.sets.Task.{Task}
use Rattle.lab_tasks.specs.declared.sets.Rules.{Rules}
use Rattle.lab_schedules.specs.Bounds.{holds_up, longest_in, unheld}
use Rattle.lab_schedules.specs.declared.covers.Uncovered.{Uncovered}
use Rattle.lab_schedules.specs.declared.covers.Uncovered.TheVariants.{Setup, Interrupts, Inband, Once, Acts}
use Rattle.lab_schedules.specs.declared.covers.Uncovered.TheVariants as why

abbrev pub exceeds_kind : ℕ → MutexKind → Bool
exceeds_kind prio (Ceiling ceiling) = nat_lt ceiling prio
exceeds_kind prio _ = false

-- the act locks a mutex whose ceiling is lower than the priority
abbrev pub exceeds : List MutexKind → ℕ → Act → Bool
exceeds kinds prio (Lock mutex) = option_map_or (exceeds_kind prio) (slice_get kinds mutex.0) false
exceeds kinds prio _ = false

abbrev pub misfit_of_acts : List MutexKind → List Task → ℕ → ℕ → Task → Option Uncovered
misfit_of_acts kinds tasks place prio is =
    if is_none is.every then Some (Once place)
    else if not (is_some (longest_in (holds_up kinds tasks 0) unheld is.does.items)) then Some (Acts place)
    else if list_any (exceeds kinds prio) is.does.items then Some (why.Ceiling place)
    else None

abbrev pub misfit_of_policy : List MutexKind → List Task → ℕ → Task → Policy → Option Uncovered
misfit_of_policy kinds tasks place is (Fifo prio) = misfit_of_acts kinds tasks place prio is
misfit_of_policy kinds tasks place is _ = Some (why.Policy place)

abbrev pub misfit_on : List MutexKind → List Task → ℕ → Task → Stage → Option Uncovered
misfit_on kinds tasks place is stage.Inband = Some (Inband place)
misfit_on kinds tasks place is stage.Oob = misfit_of_policy kinds tasks place is is.policy

-- why a task isn't covered: it is in-band, no FIFO task, has no period, other acts, or too low a ceiling
abbrev pub misfit : List MutexKind → List Task → ℕ → Task → Option Uncovered
misfit kinds tasks place is = misfit_on kinds tasks place is is.stage

abbrev pub or_next : Option Uncovered → Option Uncovered → Option Uncovered
or_next None next = next
or_next (Some found) next = Some found

abbrev pub misfit_in : List MutexKind → List Task → ℕ → List Task → Option Uncovered
misfit_in kinds all place [] = None
misfit_in kinds all place (is ∷ tasks) = or_next (misfit kinds all place is) (misfit_in kinds all (place + 1) tasks)

-- rule: Bounds are only given of a set whose tasks are periodic, FIFO and out-of-band, compute, lock one mutex at once, whose
--   ceiling, if any, is no lower than their priority, and unlock it, and which has no setup and no interrupts; else it is
--   reported what isn't so.
--   also: Covers.misfit
--   clauses: uncovered_in
-- why a set isn't covered: it has a setup, or interrupts, or a task isn't
abbrev pub uncovered_in : Bool → List MutexKind → Rules → Option Uncovered
uncovered_in is_set_up kinds rules =
    if is_set_up then Some Setup
    else if not (length rules.interrupts.items == 0) then Some Interrupts
    else misfit_in kinds rules.tasks.items 0 rules.tasks.items
