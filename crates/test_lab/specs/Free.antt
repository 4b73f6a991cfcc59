-- Four callers of six steps, none of whom ever waits. A state is a number of four digits to base 7: the callers' places.
use Rattle.std.specs.Prelude.{ℕ, zero, suc, ◌+◌, ◌/◌, ◌%◌, nat_lt, if◌then◌else◌, Option, Some, None}
use Rattle.lab_orders.specs.Machines.{Machine}

abbrev pub worth : ℕ → ℕ
worth zero = 1
worth (suc zero) = 7
worth (suc (suc zero)) = 49
worth (suc (suc (suc n))) = 343

abbrev pub go : ℕ → ℕ → Option ℕ
go s c = if nat_lt ((s / worth c) % 7) 6 then Some (s + worth c) else None

abbrev pub machine : Machine ℕ
machine = record { callers = 4; go = go }
