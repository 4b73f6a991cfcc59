-- Machines of two callers, by a table.
use Rattle.std.specs.Prelude.{ℕ, ◌==◌, nat_lt, if◌then◌else◌, List, Option, Some, None, option_and_then, slice_get}
use Rattle.lab_orders.specs.Machines.{Machine}

-- 255 means nowhere
abbrev pub if_somewhere : ℕ → Option ℕ
if_somewhere n = if nat_lt n 255 then Some n else None

-- where the two callers' steps lead from each state
abbrev pub go : List (ℕ × ℕ) → ℕ → ℕ → Option ℕ
go rows s c = option_and_then (λ row. if_somewhere (if c == 0 then row.0 else row.1)) (slice_get rows s)

abbrev pub machine : List (ℕ × ℕ) → Machine ℕ
machine rows = record { callers = 2; go = go rows }
