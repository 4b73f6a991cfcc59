-- All that a thread has of the mutexes of a machine beside its token: a place at each, the k-th at mutex k.
use Rattle.std.specs.Prelude.{◌≡◌, ℕ, ◌-◌, nat_lt, if◌then◌else◌, Bool, Option, Some, None, IsSomeAnd, List, slice_get, map}
use Rattle.std.specs.List.{list_any, range_with_len}
use Rattle.std.specs.Option.{option_map_or}
use Rattle.evl_base.specs.declared.refusal.Refusal.{Refusal}
use Rattle.evl_base.specs.declared.refusal.Refusal.TheVariants.{NotOwner}
use Rattle.evl_words.specs.declared.mutex.MutexPass.{MutexPass}
use Rattle.evl_words.specs.declared.mutex.place.MutexPlace.{MutexPlace}
use Rattle.evl_words.specs.MutexPlaces.{IsOfPlace, is_pass_of}
use Rattle.evl_core.specs.words.AtSeats.{AtSeat, AreCounted}

abbrev pub place_passes : MutexPlace → ℕ
place_passes p = p.depth

abbrev pub AreCountedPlaces : List MutexPlace → ℕ → Type 0
AreCountedPlaces places count = AreCounted (λ p. p.mutex.0) place_passes places count

-- some mutex is held
abbrev pub holds_place : List MutexPlace → Bool
holds_place places = list_any (λ p. nat_lt 0 p.depth) places

-- how often mutex i is held
abbrev pub depth_in : List MutexPlace → ℕ → ℕ
depth_in places i = option_map_or place_passes (slice_get places i) 0

-- what refuses to spend a pass with no step
abbrev pub spend_refusal_in : List MutexPlace → MutexPass → Option Refusal
spend_refusal_in places pass = option_map_or (λ p. if is_pass_of pass p then None else Some NotOwner) (slice_get places pass.mutex.0) (Some NotOwner)

abbrev pub less : ℕ → ℕ
less depth = depth - 1

abbrev pub deepened : (ℕ → ℕ) → MutexPlace → MutexPlace
deepened f p = record p { depth = f p.depth }

-- the place at mutex i alone changes, and of it only how often it holds the mutex
abbrev pub Deepens : ℕ → (ℕ → ℕ) → List MutexPlace → List MutexPlace → Type 0
Deepens i f old new = AtSeat i old new (λ was is. is ≡ deepened f was)

-- the pass is of the place at mutex i
abbrev pub HoldsBy : MutexPass → ℕ → List MutexPlace → Type 0
HoldsBy pass i places = IsSomeAnd (slice_get places i) (λ p. IsOfPlace pass p)

-- the place of thread k at mutex i, and its places at so many, at which it holds nothing
abbrev pub new_place : ℕ → ℕ → MutexPlace
new_place k i = record { mutex = record { 0 = i }; number = k; depth = 0 }

abbrev pub new_places : ℕ → ℕ → List MutexPlace
new_places count k = map (new_place k) (range_with_len 0 count)
