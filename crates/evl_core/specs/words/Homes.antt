-- The place where a seat was made.
use Rattle.std.specs.Prelude.{◌≡◌, ℕ, List, length, map}
use Rattle.std.specs.List.{range_with_len}
use Rattle.atomic_table.specs.Seated.{TableId}
use Rattle.evl_words.specs.GateCalls.{GateState, SeatState}
use Rattle.evl_words.specs.MutexCalls.{MutexSeatState}

-- of which table and of which element by number, and the gate's limit or the mutex's number of seats
pub record Home : Type 0 where
  pub table : TableId
  pub number : ℕ
  pub bound : ℕ

abbrev pub gate_home : GateState → Home
gate_home gate = record { table = gate.table; number = gate.id.0; bound = gate.limit }

abbrev pub stax_home : SeatState → Home
stax_home seat = record { table = seat.table; number = seat.gate.0; bound = seat.view.held.limit }

-- the words of so many mutexes in one table, for so many threads
abbrev pub word_home : TableId → ℕ → ℕ → Home
word_home table threads i = record { table = table; number = i; bound = threads }

abbrev pub word_homes : TableId → ℕ → ℕ → List Home
word_homes table threads count = map (word_home table threads) (range_with_len 0 count)

abbrev pub mutex_home : MutexSeatState → Home
mutex_home seat = record { table = seat.table; number = seat.mutex.0; bound = seat.view.held.seats }

-- the homes of elements numbered in order, with these bounds
pub record AreHomes (bounds : List ℕ) (homes : List Home) : Type 0 where
  pub numbers : map (λ h. h.number) homes ≡ range_with_len 0 (length bounds)
  pub bounded : map (λ h. h.bound) homes ≡ bounds
