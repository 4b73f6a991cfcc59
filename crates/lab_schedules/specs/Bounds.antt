-- How long a job of a task takes at most, by the analysis of response times under fixed priorities.
use Rattle.std.specs.Prelude.{ℕ, ◌≡◌, ◌≤◌, ◌<◌, ◌+◌, ◌*◌, ◌-◌, ◌^◌, ◌==◌, ◌&&◌, ◌||◌, min, max, nat_le, nat_lt, Bool, true, false, not, List, [], ◌∷◌, Option, Some, None, option_and_then, slice_get, unwrap_or, if◌then◌else◌, ⊤}
use Rattle.std.specs.Int.{div_ceil}
use Rattle.std.specs.Option.{option_map_or}
use Rattle.std.specs.List.{list_all, list_any}
use Rattle.evl_base.specs.declared.mutex_kind.MutexKind.{MutexKind}
use Rattle.evl_base.specs.declared.mutex_kind.MutexKind.TheVariants.{Ceiling}
use Rattle.evl_base.specs.declared.numbers.MutexId.{MutexId}
use Rattle.lab_tasks.specs.declared.acts.Act.{Act}
use Rattle.lab_tasks.specs.declared.acts.Act.TheVariants as act
use Rattle.lab_tasks.specs.declared.sets.Task.{Task}
use Rattle.lab_schedules.specs.Jobs.{rank_of}
use Rattle.lab_schedules.specs.declared.bounds.Bound.{Bound}
use Rattle.lab_schedules.specs.declared.bounds.Bound.TheVariants.{Within, Longer, Unknown}
use Rattle.lab_schedules.specs.declared.loads.Load.{Load}
use Rattle.lab_schedules.specs.declared.sections.Held.{Held}

-- the greatest number of 64 bits, where a sum ends
abbrev pub sum_of : ℕ → ℕ → ℕ
sum_of a b = min (a + b) (2 ^ 64 - 1)

-- ---- the analysis (Joseph and Pandya 1986)

-- how long the jobs compute that a task releases within a time
abbrev pub asked_in : ℕ → Load → ℕ
asked_in time l = div_ceil time l.every * l.computes

-- how long these jobs and a job of its own compute
abbrev pub demand : ℕ → ℕ → List Load → ℕ
demand time own [] = own
demand time own (l ∷ loads) = demand time (own + asked_in time l) loads

-- rule: A job's bound is the first time within which all is computed that is asked for in it: the job with what holds it
--   up, and the jobs of tasks of its rank or higher; none where that is above the period.
--   also: Bounds.{demand, IsBoundOf}
--   clauses: bound_of; response_of
-- the first time within which all is computed that is asked for in it
pub record IsResponse (own : ℕ) (loads : List Load) (time : ℕ) : Type 0 where
  pub enough : demand time own loads ≡ time
  pub first : (other : ℕ) → demand other own loads ≤ other → time ≤ other

abbrev pub IsLonger : ℕ → List Load → ℕ → Type 0
IsLonger own loads most = (other : ℕ) → demand other own loads ≤ other → most < other

abbrev pub IsBound : ℕ → List Load → ℕ → Bound → Type 0
IsBound own loads most (Within time) = IsResponse own loads time
IsBound own loads most Longer = IsLonger own loads most
IsBound own loads most Unknown = ⊤

-- ---- what a task computes

abbrev pub time_of : Act → ℕ
time_of (act.Run time) = time
time_of _ = 0

abbrev pub computed_in : ℕ → List Act → ℕ
computed_in sum [] = sum
computed_in sum (a ∷ acts) = computed_in (sum_of sum (time_of a)) acts

abbrev pub computes_for : Task → ℕ
computes_for is = computed_in 0 is.does.items

-- ---- critical sections

abbrev pub locks : ℕ → Act → Bool
locks mutex (act.Lock other) = other.0 == mutex
locks mutex _ = false

-- a task of this rank or a higher one locks the mutex
abbrev pub is_shared : List Task → ℕ → ℕ → Bool
is_shared tasks rank mutex = list_any (λ other. nat_le rank (rank_of other) && list_any (locks mutex) other.does.items) tasks

-- while a task has the mutex, it may hold up those of this rank: by the ceiling, or by what is inherited
abbrev pub holds_up_by : List Task → ℕ → ℕ → MutexKind → Bool
holds_up_by tasks rank mutex (Ceiling ceiling) = nat_le rank (513 + ceiling)
holds_up_by tasks rank mutex _ = is_shared tasks rank mutex

abbrev pub holds_up : List MutexKind → List Task → ℕ → ℕ → Bool
holds_up kinds tasks rank mutex = option_map_or (holds_up_by tasks rank mutex) (slice_get kinds mutex) false

-- a task without a mutex, before its first act
abbrev pub unheld : Held
unheld = record { mutex = None; time = 0; longest = 0 }

-- a section ends, which counts or doesn't
abbrev pub ended : Bool → Held → Held
ended counts h = record { mutex = None; time = 0; longest = if counts then max h.longest h.time else h.longest }

abbrev pub unlocked : (ℕ → Bool) → Held → MutexId → Option MutexId → Option Held
unlocked counts h mutex None = None
unlocked counts h mutex (Some other) = if other.0 == mutex.0 then Some (ended (counts mutex.0) h) else None

abbrev pub locked : Held → MutexId → Option MutexId → Option Held
locked h mutex None = Some (record { mutex = Some mutex; time = 0; longest = h.longest })
locked h mutex (Some other) = None

-- an act of a task: it computes, locks a mutex, or unlocks it; no other act is covered, nor a second mutex at once
abbrev pub held_after : (ℕ → Bool) → Held → Act → Option Held
held_after counts h (act.Run time) = Some (record { mutex = h.mutex; time = sum_of h.time time; longest = h.longest })
held_after counts h (act.Lock mutex) = locked h mutex h.mutex
held_after counts h (act.Unlock mutex) = unlocked counts h mutex h.mutex
held_after counts h _ = None

abbrev pub at_end : Held → Option MutexId → Option ℕ
at_end h None = Some h.longest
at_end h (Some mutex) = None

-- rule: A section counts for a rank if its mutex has a ceiling of at least this rank, or a task of this rank or a higher one
--   locks it too.
--   also: Bounds.holds_up
--   clauses: longest_in
-- the longest section of these acts that counts; none where the acts are not covered
abbrev pub longest_in : (ℕ → Bool) → Held → List Act → Option ℕ
longest_in counts h [] = at_end h h.mutex
longest_in counts h (a ∷ acts) = option_and_then (λ after. longest_in counts after acts) (held_after counts h a)

abbrev pub longest_of : List MutexKind → List Task → ℕ → Task → ℕ
longest_of kinds tasks rank is = unwrap_or (longest_in (holds_up kinds tasks rank) unheld is.does.items) 0

-- ---- held up by tasks of lower rank (Sha, Rajkumar and Lehoczky 1990): under ceilings by one section, else by one of each task

abbrev pub is_ceiling : MutexKind → Bool
is_ceiling (Ceiling ceiling) = true
is_ceiling _ = false

abbrev pub with_section : Bool → ℕ → ℕ → ℕ
with_section once sum section = if once then max sum section else sum_of sum section

-- with what a task adds, if its rank is lower
abbrev pub held_by : List MutexKind → List Task → ℕ → ℕ → Task → ℕ
held_by kinds all rank sum is =
    if nat_lt (rank_of is) rank then with_section (list_all is_ceiling kinds) sum (longest_of kinds all rank is) else sum

abbrev pub blocking_in : List MutexKind → List Task → ℕ → ℕ → List Task → ℕ
blocking_in kinds all rank sum [] = sum
blocking_in kinds all rank sum (is ∷ tasks) = blocking_in kinds all rank (held_by kinds all rank sum is) tasks

-- rule: Tasks of lower rank hold a job up, under ceilings, by the longest section of one of them, else by one section of each.
--   clauses: blocking
abbrev pub blocking : List MutexKind → List Task → ℕ → ℕ
blocking kinds tasks rank = blocking_in kinds tasks rank 0 tasks

-- ---- a task among others

abbrev pub load_of : Task → Load
load_of is = record { computes = computes_for is; every = unwrap_or is.every 0 }

-- rule: The jobs of all other tasks of the same rank or a higher one are asked for.
--   clauses: loads_of
-- the others of the same rank or a higher one
abbrev pub loads_in : ℕ → ℕ → ℕ → List Task → List Load
loads_in place rank at [] = []
loads_in place rank at (is ∷ tasks) =
    if not (at == place) && nat_le rank (rank_of is) then load_of is ∷ loads_in place rank (at + 1) tasks else loads_in place rank (at + 1) tasks

-- the acts end with a computation that takes time
abbrev pub ends_computing : Bool → List Act → Bool
ends_computing last [] = last
ends_computing last (a ∷ acts) = ends_computing (nat_lt 0 (time_of a)) acts

-- rule: A last act that takes no time is done after what is released at its date: the job counts as one nanosecond longer,
--   and its bound as one shorter.
--   clauses: late_of; bound_but
abbrev pub late_of : Task → ℕ
late_of is = if ends_computing false is.does.items then 0 else 1

-- a bound for a job that counts as so much longer
abbrev pub IsBoundBut : ℕ → ℕ → List Load → ℕ → Bound → Type 0
IsBoundBut late own loads most (Within time) = IsResponse (sum_of own late) loads (time + late)
IsBoundBut late own loads most Longer = IsLonger (sum_of own late) loads (sum_of most late)
IsBoundBut late own loads most Unknown = ⊤

-- the bound of the task at a place is the response of its computation and of what holds it up, up to its period
abbrev pub IsBoundOf : List MutexKind → List Task → ℕ → Task → Bound → Type 0
IsBoundOf kinds tasks place is bound =
    IsBoundBut (late_of is) (sum_of (computes_for is) (blocking kinds tasks (rank_of is))) (loads_in place (rank_of is) 0 tasks) (unwrap_or is.every 0) bound
