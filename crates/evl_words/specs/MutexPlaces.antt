-- A thread's place at a mutex, and the passes by which it holds it.
use Rattle.std.specs.Prelude.{◌≡◌, ◌==◌, ◌&&◌, nat_lt, Bool}
use Rattle.evl_words.specs.declared.mutex.MutexPass.{MutexPass}
use Rattle.evl_words.specs.declared.mutex.place.MutexPlace.{MutexPlace}

abbrev pub IsOfPlace : MutexPass → MutexPlace → Type 0
IsOfPlace pass place = (pass.mutex ≡ place.mutex) × (pass.seat ≡ place.number)

-- the pass is of this place, which holds its mutex
abbrev pub is_pass_of : MutexPass → MutexPlace → Bool
is_pass_of pass place = (pass.mutex.0 == place.mutex.0) && (pass.seat == place.number) && nat_lt 0 place.depth
