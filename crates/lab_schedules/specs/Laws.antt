-- Laws of every play.
use Rattle.std.specs.Prelude.{ℕ, ◌≡◌, ◌+◌, ◌-◌, ◌==◌, ◌&&◌, Bool, true, false, List, [], ◌∷◌, Option, Some, None, slice_get, if◌then◌else◌}
use Rattle.lab_tasks.specs.declared.sets.Rules.{Rules}
use Rattle.lab_schedules.specs.declared.places.Place.{Place}
use Rattle.lab_schedules.specs.declared.events.Stretch.{Stretch}
use Rattle.lab_schedules.specs.Choices.{doer}
use Rattle.lab_schedules.specs.Dates.{computed}
use Rattle.lab_schedules.specs.Places.{rest_of}
use Rattle.lab_schedules.specs.Plays.{Played, now, place_at}
use Rattle.lab_schedules.specs.Turns.{acting, is_past, line_due, turned}

-- Only the task that has the processor computes: where nobody has it, or that task doesn't compute, a turn notes nothing.
pub record OnlyTheDoerComputes (rules : Rules) (p : Played) : Type 0 where
  pub others : doer p ≡ None → (turned rules p).1.runs ≡ p.runs
  pub acting : (task : ℕ) → doer p ≡ Some task → rest_of (place_at p task) ≡ None → (turned rules p).1.runs ≡ p.runs

-- Time waits for a task that can act: where no interrupt has come, nor the end, a turn is what that task does, without a
-- tick.
pub record TimeWaits (rules : Rules) (p : Played) : Type 0 where
  pub waits : (task : ℕ) → line_due rules p.gone (now p) ≡ None → is_past rules (now p) ≡ false → doer p ≡ Some task
      → rest_of (place_at p task) ≡ None → turned rules p ≡ acting p task (slice_get rules.tasks.items task)

-- ---- what a job was given

abbrev pub is_of : ℕ → ℕ → Stretch → Bool
is_of task job s = s.task == task && s.job == job

-- how long a job computed in a stretch
abbrev pub share : ℕ → ℕ → Stretch → ℕ
share task job s = if is_of task job s then s.to - s.from else 0

-- how long a job has computed
abbrev pub given : List Stretch → ℕ → ℕ → ℕ
given [] task job = 0
given (s ∷ runs) task job = share task job s + given runs task job

-- The time that passes while a task computes is given to its job, and to no other.
pub record ComputingIsCounted (p : Played) (task : ℕ) (place : Place) (rest from acts : ℕ) : Type 0 where
  pub own : given (computed p task place rest from acts).runs task place.job ≡ given p.runs task place.job + (now p - from)
  pub others : (other job : ℕ) → (task == other && place.job == job) ≡ false → given (computed p task place rest from acts).runs other job ≡ given p.runs other job
