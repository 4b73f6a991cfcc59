-- The place of a task in what it does.
use Rattle.std.specs.Prelude.{ℕ, ◌+◌, ◌-◌, ◌^◌, min, Bool, true, false, Option, Some, None}
use Rattle.lab_schedules.specs.declared.places.Phase.{Phase}
use Rattle.lab_schedules.specs.declared.places.Phase.TheVariants.{Between, Due, At, Runs, Sleeps, Waits, Over}
use Rattle.lab_schedules.specs.declared.places.Place.{Place}

-- one more, up to the greatest number of 64 bits
abbrev pub more : ℕ → ℕ
more n = min (n + 1) (2 ^ 64 - 1)

-- before the first job
abbrev pub first : Place
first = record { job = 0; act = 0; phase = Between }

-- of no task: nothing is done
abbrev pub nowhere : Place
nowhere = record { job = 0; act = 0; phase = Over }

abbrev pub at : Place → Phase → Place
at place phase = record { job = place.job; act = place.act; phase = phase }

-- after its act
abbrev pub further : Place → Place
further place = record { job = place.job; act = more place.act; phase = At }

-- after its job
abbrev pub behind_job : Place → Place
behind_job place = record { job = more place.job; act = 0; phase = Between }

-- the first act of its job
abbrev pub at_first : Place → Place
at_first place = record { job = place.job; act = 0; phase = At }

abbrev pub phase_rest : Phase → Option ℕ
phase_rest (Runs rest) = Some rest
phase_rest _ = None

-- how much longer it computes, if it does
abbrev pub rest_of : Place → Option ℕ
rest_of place = phase_rest place.phase

abbrev pub phase_wakes : Phase → Option ℕ
phase_wakes (Due date) = Some date
phase_wakes (Sleeps date) = Some date
phase_wakes _ = None

-- until which date it does nothing by itself, if it does so
abbrev pub wakes_of : Place → Option ℕ
wakes_of place = phase_wakes place.phase

abbrev pub is_phase_over : Phase → Bool
is_phase_over Over = true
is_phase_over _ = false

abbrev pub is_over : Place → Bool
is_over place = is_phase_over place.phase
