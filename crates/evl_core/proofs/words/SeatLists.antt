-- Lists of seats of which one changes: what stays, and what the count comes to.
use Rattle.std.proofs.Common.{◌≡◌, ℕ, zero, suc, ◌+◌, ◌*◌, ◌≤◌, ◌<◌, nat_lt, Bool, false, ◌||◌, List, [], ◌∷◌, length, map, Some, slice_get, slice_set, IsSomeAnd, get_or, refl, sym, ap, ◌∙◌, subst, arith, length-set}
use Rattle.std.specs.Prelude.{sum_by}
use Rattle.std.specs.List.{list_any}
use Rattle.std.specs.Option.{option_map}
use Rattle.std.proofs.lemmas.List.{length-map}
use Rattle.std.proofs.lemmas.List.Sums.{sum_by-cons, sum_by-set, get_or-le-sum_by}
use Rattle.std.proofs.lemmas.Option.{none-some, same_Some, slice_get-map, slice_get_within, get_or_from_slice_get, slice_get_read}
use Rattle.std.proofs.lemmas.Bool.Decides.{nat_tests}
use Rattle.evl_core.specs.words.AtSeats.{AtSeat, AreCounted}

module _ {S : Type 0} where
  -- to write what is there already changes nothing
  pub set-same : (xs : List S) (i : ℕ) (s : S) → slice_get xs i ≡ Some s → slice_set xs i s ≡ xs
  set-same [] i s there = refl
  set-same (x ∷ xs) zero s there = ap (λ y. y ∷ xs) (sym (same_Some x s there))
  set-same (x ∷ xs) (suc i) s there = ap (λ ys. x ∷ ys) (set-same xs i s there)

  -- what all have alike of each place stays
  pub each-set : (P : ℕ → S → Type 0) (xs : List S) (i : ℕ) (is : S) → ((k : ℕ) (s : S) → slice_get xs k ≡ Some s → P k s) → P i is
      → (k : ℕ) (s : S) → slice_get (slice_set xs i is) k ≡ Some s → P k s
  each-set P [] i is h p k s there = absurd (none-some s there)
  each-set P (x ∷ xs) zero is h p zero s there = subst (P 0) (same_Some is s there) p
  each-set P (x ∷ xs) zero is h p (suc k) s there = h (suc k) s there
  each-set P (x ∷ xs) (suc i) is h p zero s there = h zero s there
  each-set P (x ∷ xs) (suc i) is h p (suc k) s there = each-set (λ j. P (suc j)) xs i is (λ j. h (suc j)) p k s there

  -- what one call keeps of a seat, all calls keep of all seats
  pub map-kept : {B : Type 0} (f : S → B) (xs : List S) (i : ℕ) (was is : S) → slice_get xs i ≡ Some was → f is ≡ f was → map f (slice_set xs i is) ≡ map f xs
  map-kept f [] i was is there same = refl
  map-kept f (x ∷ xs) zero was is there same = ap (λ y. y ∷ map f xs) (same ∙ ap f (sym (same_Some x was there)))
  map-kept f (x ∷ xs) (suc i) was is there same = ap (λ ys. f x ∷ ys) (map-kept f xs i was is there same)

  module _ (f : S → ℕ) where
    sum-bound : (xs : List S) → ((k : ℕ) (s : S) → slice_get xs k ≡ Some s → f s ≤ 255) → sum_by f xs ≤ 255 * length xs
    sum-bound [] h = omega arith
    sum-bound (x ∷ xs) h = omega (arith, sum_by-cons f x xs, h 0 x refl, sum-bound xs (λ k. h (suc k)))

    lt-add : (a b : ℕ) → nat_lt 0 (a + b) ≡ (nat_lt 0 a || nat_lt 0 b)
    lt-add a b = grind (arith, nat_tests)

    -- there is one at least where some seat has one
    pub some-counted : (p : S → Bool) → ((s : S) → nat_lt 0 (f s) ≡ p s) → (xs : List S) → nat_lt 0 (sum_by f xs) ≡ list_any p xs
    some-counted p same [] = refl
    some-counted p same (x ∷ xs) = ap (nat_lt 0) (sum_by-cons f x xs) ∙ lt-add (f x) (sum_by f xs) ∙ (λ i. same x i || some-counted p same xs i)

    pub none-counted : (xs : List S) → nat_lt 0 (sum_by f xs) ≡ false → 0 ≡ sum_by f xs
    none-counted xs none = grind (arith, nat_tests)

  module _ (number passes : S → ℕ) (xs : List S) (n i : ℕ) (was : S) where
    -- the count is small, and has at least what one seat has
    pub count-room : AreCounted number passes xs n → slice_get xs i ≡ Some was → (passes was ≤ n) × (n ≤ 8160)
    count-room h there =
        let part = subst (λ x. passes x ≤ sum_by passes xs) (get_or_from_slice_get xs i was was there) (get_or-le-sum_by passes xs i was (slice_get_within xs i was there)) in
        (omega (arith, part, h.counted), omega (arith, sum-bound passes xs h.bounded, h.few, h.counted))

    -- the count after one seat's change
    pub counted-set : (n' : ℕ) (is : S) → AreCounted number passes xs n → slice_get xs i ≡ Some was → number is ≡ number was → passes is ≤ 255 → n' + passes was ≡ n + passes is
        → AreCounted number passes (slice_set xs i is) n'
    counted-set n' is h there same few changed =
        let sums = subst (λ x. sum_by passes (slice_set xs i is) + passes x ≡ sum_by passes xs + passes is) (get_or_from_slice_get xs i was was there) (sum_by-set passes xs i is was (slice_get_within xs i was there)) in
        record {
          few = subst (λ m. m ≤ 32) (sym (length-set xs i is)) h.few;
          placed = each-set (λ k s. number s ≡ k) xs i is h.placed (same ∙ h.placed i was there);
          bounded = each-set (λ k s. passes s ≤ 255) xs i is h.bounded few;
          counted = omega (arith, sums, h.counted, changed);
        }

-- where two lists agree, they agree at each place
pub same-at : {A B C : Type 0} (f : A → C) (g : B → C) (xs : List A) (ys : List B) (i : ℕ) (x : A) (y : B) → map f xs ≡ map g ys → slice_get xs i ≡ Some x → slice_get ys i ≡ Some y → f x ≡ g y
same-at f g xs ys i x y same here there =
    same_Some (f x) (g y) (sym (ap (option_map f) here) ∙ sym (slice_get-map f xs i) ∙ ap (λ zs. slice_get zs i) same ∙ slice_get-map g ys i ∙ ap (option_map g) there)

-- and are of one length
pub same-length : {A B C : Type 0} (f : A → C) (g : B → C) (xs : List A) (ys : List B) → map f xs ≡ map g ys → length xs ≡ length ys
same-length f g xs ys same = sym (length-map xs f) ∙ ap length same ∙ length-map ys g

-- what is at one place of two lists that agree
pub same-place : {A B C : Type 0} (f : A → C) (g : B → C) (xs old : List A) (ys now : List B) (i : ℕ) (x : A) (y : B) → xs ≡ old → ys ≡ now → map f old ≡ map g now
    → i < length old → x ≡ get_or xs i x → y ≡ get_or ys i y → (slice_get xs i ≡ Some x) × (f x ≡ g y)
same-place f g xs old ys now i x y same_xs same_ys alike within here there =
    let agree : map f xs ≡ map g ys = ap (map f) same_xs ∙ alike ∙ sym (ap (map g) same_ys) in
    let long = same-length f g xs ys agree in
    let at = slice_get_read xs (length xs) i x refl (omega (arith, within, ap length same_xs)) here in
    (at, same-at f g xs ys i x y agree at (slice_get_read ys (length ys) i y refl (omega (arith, within, long, ap length same_xs)) there))

-- a condition of the element at a place holds of the one that is found there
pub some-here : {S : Type 0} (P : S → Type 0) (xs old : List S) (i j : ℕ) (s : S) → xs ≡ old → i ≡ j → slice_get xs i ≡ Some s → IsSomeAnd (slice_get old j) P → P s
some-here P xs old i j s same place there has = subst (λ o. IsSomeAnd o P) ((λ k. slice_get (sym same k) (sym place k)) ∙ there) has

pub some-within : {S : Type 0} (P : S → Type 0) (xs : List S) (i : ℕ) → IsSomeAnd (slice_get xs i) P → i < length xs
some-within P [] i has = absurd has
some-within P (x ∷ xs) zero has = omega arith
some-within P (x ∷ xs) (suc i) has = omega (arith, some-within P xs i has)

-- what one seat did
pub at-seat : {S : Type 0} (step : S → S → Type 0) (xs : List S) (i : ℕ) (was is : S) → slice_get xs i ≡ Some was → step was is → AtSeat i xs (slice_set xs i is) step
at-seat step xs i was is there does = record { was = was; is = is; there = there; changed = refl; does = does }

-- where something was written, it is
pub set_there : {S : Type 0} (xs : List S) (i : ℕ) (was is : S) → slice_get xs i ≡ Some was → slice_get (slice_set xs i is) i ≡ Some is
set_there [] i was is there = absurd (none-some was there)
set_there (x ∷ xs) zero was is there = refl
set_there (x ∷ xs) (suc i) was is there = set_there xs i was is there
