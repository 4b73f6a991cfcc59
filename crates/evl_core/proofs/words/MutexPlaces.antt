-- The places of a thread at the mutexes of a machine, of which one changes.
use Rattle.std.proofs.Common.{◌≡◌, ◌<◌, ◌≤◌, ℕ, ◌+◌, List, [], ◌∷◌, ◌++◌, length, get_or, Some, IsSomeAnd, slice_get, refl, sym, ap, ◌∙◌, subst, zero-add, arith}
use Rattle.std.specs.List.{range_with_len}
use Rattle.std.proofs.lemmas.List.{map-id}
use Rattle.std.proofs.lemmas.List.FromFn.{length-range_with_len, map-range_with_len_more}
use Rattle.std.proofs.lemmas.Option.{slice_get_read}
use Rattle.evl_words.specs.declared.mutex.MutexPass.{MutexPass}
use Rattle.evl_words.specs.declared.mutex.place.MutexPlace.{MutexPlace}
use Rattle.evl_words.specs.MutexPlaces.{IsOfPlace}
use Rattle.evl_core.specs.words.MutexPlaces.{AreCountedPlaces, HoldsBy, new_place, new_places, place_passes}
use Rattle.evl_core.proofs.words.DealLaws.{fresh-counted}

-- what is at a place
pub place_there : (xs old : List MutexPlace) (i j : ℕ) (x : MutexPlace) → xs ≡ old → i ≡ j → j < length old → x ≡ get_or xs i x → slice_get xs i ≡ Some x
place_there xs old i j x same at within here = slice_get_read xs (length xs) i x refl (omega (arith, within, at, ap length same)) here

pub held_by : (pass : MutexPass) (xs : List MutexPlace) (i : ℕ) (x : MutexPlace) → slice_get xs i ≡ Some x → IsOfPlace pass x → HoldsBy pass i xs
held_by pass xs i x there mine = subst (λ o. IsSomeAnd o (λ p. IsOfPlace pass p)) (sym there) mine

-- places at which nothing is held
pub new_counted : (m k : ℕ) → m ≤ 32 → AreCountedPlaces (new_places m k) 0
new_counted m k few =
    let long : length (range_with_len 0 m) ≡ m = length-range_with_len 0 m in
    fresh-counted (λ i n. new_place n i) (λ i. i) (λ (p : MutexPlace). p.mutex.0) place_passes (λ m n. refl) (λ m n. refl) k (range_with_len 0 m) (omega (arith, few, long)) (map-id (range_with_len 0 m) ∙ ap (range_with_len 0) (sym long))

pub one_place_more : (m k : ℕ) → new_places m k ++ new_place k m ∷ [] ≡ new_places (m + 1) k
one_place_more m k = sym (map-range_with_len_more (new_place k) 0 m m (zero-add m))
