-- A thread that is by itself, apart from the queues.
use Rattle.std.specs.Prelude.{ℕ, ◌≡◌, ◌<◌, ◌==◌, Bool, false, List, length, Option, Some, None, slice_set}
use Rattle.evl_sched.specs.declared.contenders.Alone.{Alone}
use Rattle.evl_sched.specs.declared.place.Place.{Place}
use Rattle.evl_sched.specs.Places.{place_of}

-- the places of all, where a thread is by itself
abbrev pub with_alone : List (Option Place) → Option Alone → List (Option Place)
with_alone places None = places
with_alone places (Some alone) = slice_set places alone.thread (Some alone.place)

-- who is by itself is one of the threads, and is in no queue
abbrev pub IsApart : List (Option Place) → Option Alone → Type 0
IsApart places None = Unit {0}
IsApart places (Some alone) = (alone.thread < length places) × (place_of places alone.thread ≡ None)

abbrev pub is_alone : Option Alone → ℕ → Bool
is_alone None thread = false
is_alone (Some alone) thread = alone.thread == thread
