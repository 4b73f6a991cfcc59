-- Ranks that follow from times.
use Rattle.std.specs.Prelude.{ℕ, nat_lt, Bool, false, Option}
use Rattle.std.specs.Option.{option_map_or}
use Rattle.lab_tasks.specs.declared.ranks.Ranks.{Ranks}
use Rattle.lab_tasks.specs.declared.ranks.Ranks.TheVariants.{RateMonotonic, DeadlineMonotonic}
use Rattle.lab_tasks.specs.declared.sets.Task.{Task}

abbrev pub time_of : Task → Ranks → Option ℕ
time_of is RateMonotonic = is.every
time_of is DeadlineMonotonic = is.by

-- rule: If ranks follow from times, a task's priority is one more than the number of tasks with a longer period, or
--   relative deadline.
--   clauses: longer_than; time_of
-- it has one, which is longer than this
abbrev pub is_longer : Ranks → ℕ → Task → Bool
is_longer ranks time is = option_map_or (λ other. nat_lt time other) (time_of is ranks) false
