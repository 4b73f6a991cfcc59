-- How time passes.
use Rattle.std.specs.Prelude.{ℕ, ◌+◌, ◌-◌, ◌*◌, ◌/◌, ◌^◌, ◌==◌, min, nat_lt, Bool, true, false, List, [], ◌∷◌, ◌++◌, length, Option, Some, None, option_and_then, option_map, slice_get, if◌then◌else◌}
use Rattle.std.specs.Option.{option_map_or}
use Rattle.evl_base.specs.declared.call.Call.TheVariants.{Tick}
use Rattle.evl_clock.specs.Dues.{earliest_date}
use Rattle.evl_sched.specs.Charges.{allowance}
use Rattle.lab_tasks.specs.declared.sets.Rules.{Rules}
use Rattle.lab_tasks.specs.declared.sets.Task.{Task}
use Rattle.lab_schedules.specs.declared.places.Phase.TheVariants.{Runs}
use Rattle.lab_schedules.specs.declared.places.Place.{Place}
use Rattle.lab_schedules.specs.declared.events.Stretch.{Stretch}
use Rattle.lab_schedules.specs.Acts.{date_after, end_run}
use Rattle.lab_schedules.specs.Places.{at, wakes_of}
use Rattle.lab_schedules.specs.Plays.{Played, called, hardware, is_oob_thread, now, place_at, state, thread_of, with_place}

-- the earlier of two dates that may come
abbrev pub earlier : Option ℕ → Option ℕ → Option ℕ
earlier None other = other
earlier (Some date) None = Some date
earlier (Some date) (Some other) = Some (min date other)

abbrev pub after_date : ℕ → ℕ → Option ℕ
after_date now date = if nat_lt now date then Some date else None

-- a date, if it is later than now
abbrev pub later : ℕ → Option ℕ → Option ℕ
later now date = option_and_then (after_date now) date

-- a date that 64 bits have
abbrev pub in_range : ℕ → Option ℕ
in_range date = if nat_lt date (2 ^ 64) then Some date else None

-- the date at which a task that is in-band goes on by itself
abbrev pub inband_date : Played → ℕ → Place → Option ℕ
inband_date p task place = if is_oob_thread p (thread_of task) then None else later (now p) (wakes_of place)

-- the first of those from a task on
abbrev pub inband_dates : Played → ℕ → List Place → Option ℕ
inband_dates p task [] = None
inband_dates p task (place ∷ places) = earlier (inband_date p task place) (inband_dates p (task + 1) places)

-- the clock's next date, and that of the next interrupt
abbrev pub next_outside : Rules → Played → Option ℕ
next_outside rules p =
    earlier (later (now p) (earliest_date (state p).clock)) (option_map (λ i. i.date) (slice_get rules.interrupts.items p.gone))

-- the next date at which something comes by itself
unfoldable pub next_coming : Rules → Played → Option ℕ
next_coming rules p = earlier (next_outside rules p) (earlier (inband_dates p 0 p.places) rules.until)

-- the end of the slice or the budget of a task that is out-of-band
unfoldable pub next_payment : Played → ℕ → Option ℕ
next_payment p task =
    if is_oob_thread p (thread_of task)
    then option_and_then (λ time. in_range (now p + time)) (allowance (state p).sched (thread_of task).0)
    else None

abbrev pub second : ℕ
second = 1000000000

-- the next whole second, where there are quota groups
unfoldable pub next_second : Played → Option ℕ
next_second p = if p.has_groups then in_range ((now p / second + 1) * second) else None

-- the end of a computation of so much longer
abbrev pub end_of : Rules → Played → Option (ℕ × ℕ) → Option ℕ
end_of rules p None = next_coming rules p
end_of rules p (Some (task, rest)) =
    earlier (earlier (Some (date_after (now p) rest)) (next_coming rules p)) (next_payment p task)

abbrev pub with_second : Played → Option ℕ → Option ℕ
with_second p None = None
with_second p (Some date) = earlier (Some date) (next_second p)

-- rule: Time passes by one tick, to the least of: the end of the computation, the clock's next date, the next
--   interrupt, the end of the run, the end of the slice or the budget, a date of an in-band task, and where there are
--   quota groups the next whole second.
--   clauses: Play::{compute, pause}
-- until which date time passes, while a task computes for so long, or nobody does
abbrev pub passes_to : Rules → Played → Option (ℕ × ℕ) → Option ℕ
passes_to rules p computing = with_second p (end_of rules p computing)

-- ---- what is noted

abbrev pub stretch : ℕ → ℕ → ℕ → ℕ → Stretch
stretch task job from to = record { task = task; job = job; from = from; to = to }

-- a task has computed since a date
abbrev pub noted : Played → ℕ → ℕ → ℕ → Played
noted p task job from = record p { runs = p.runs ++ stretch task job from (now p) ∷ [] }

-- ---- what time does

unfoldable pub ticked : Played → ℕ → Played
ticked p date = called p hardware (Tick (date - now p))

-- a task has computed since a date, with so much left then
abbrev pub left_over : Played → ℕ → Place → ℕ → ℕ → Played
left_over p task place acts left =
    if left == 0 then end_run p task place acts else with_place p task (at place (Runs left))

-- rule: Time that passes while a task computes is given to its job, and to no other; as much is taken off what it has
--   left.
--   also: Laws.ComputingIsCounted
--   clauses: Play::computed; computing_is_counted
unfoldable pub computed : Played → ℕ → Place → ℕ → ℕ → ℕ → Played
computed p task place rest from acts =
    left_over (noted p task place.job from) task place acts (rest - (now p - from))

abbrev pub acts_of : Rules → ℕ → ℕ
acts_of rules task = option_map_or (λ is. length is.does.items) (slice_get rules.tasks.items task) 0

abbrev pub computes_to : Rules → Played → ℕ → ℕ → ℕ → Played
computes_to rules p task rest date = computed (ticked p date) task (place_at p task) rest (now p) (acts_of rules task)
