-- Outcomes, where one of them gets more orders, or a new one comes.
use Rattle.std.proofs.Common.{◌≡◌, ◌≢◌, ℕ, zero, suc, ◌+◌, ◌*◌, List, [], ◌∷◌, ◌++◌, get_or, map, refl, sym, ◌∙◌, ap, subst, arith}
use Rattle.std.specs.Prelude.{◌≤◌, All, AllPairs, Some, slice_get, slice_set, string_bytes, sum_by}
use Rattle.std.proofs.lemmas.List.Sums.{get_or-le-sum_by, sum_by-set}
use Rattle.std.proofs.lemmas.List.Elements.{All-map}
use Rattle.std.proofs.lemmas.List.Quantifiers.{all_pairs_push}
use Rattle.std.proofs.lemmas.Option.{same_Some, none-some, slice_get_within, get_or_from_slice_get}
use Rattle.lab_orders.specs.Tallies.{told_weight, texts, first_of, AreDistinct}
use Rattle.lab_orders.specs.declared.tallies.Tally.{Tally}

-- an outcome with more orders
abbrev pub raised : Tally → ℕ → Tally
raised tally more = record tally { count = tally.count + more }

texts_raised : (tallies : List Tally) (i more : ℕ) (tally : Tally) → slice_get tallies i ≡ Some tally → texts (slice_set tallies i (raised tally more)) ≡ texts tallies
texts_raised [] i more tally e = absurd (none-some tally e)
texts_raised (x ∷ tallies) zero more tally e = ap (λ (t : Tally). string_bytes t.told ∷ texts tallies) (sym (same_Some x tally e))
texts_raised (x ∷ tallies) (suc i) more tally e = ap (λ (ts : List (List ℕ)). string_bytes x.told ∷ ts) (texts_raised tallies i more tally e)

pub distinct_raised : (tallies : List Tally) (i more : ℕ) (tally : Tally) → slice_get tallies i ≡ Some tally → AreDistinct tallies → AreDistinct (slice_set tallies i (raised tally more))
distinct_raised tallies i more tally e all = subst (AllPairs (λ one other. one ≢ other)) (sym (texts_raised tallies i more tally e)) all

pub told_raised : (f : List ℕ → ℕ) (tallies : List Tally) (i more : ℕ) (tally : Tally) (told : List ℕ) → slice_get tallies i ≡ Some tally → string_bytes tally.told ≡ told
    → told_weight f (slice_set tallies i (raised tally more)) ≡ told_weight f tallies + more * f told
told_raised f tallies i more tally told e same =
    let g : Tally → ℕ = λ t. t.count * f (string_bytes t.told) in
    let there : g (get_or tallies i tally) ≡ g tally = ap g (get_or_from_slice_get tallies i tally tally e) in
    let sums : sum_by g (slice_set tallies i (raised tally more)) + g (get_or tallies i tally) ≡ sum_by g tallies + g (raised tally more) =
    sum_by-set g tallies i (raised tally more) tally (slice_get_within tallies i tally e) in
    let counted : told_weight f (slice_set tallies i (raised tally more)) ≡ told_weight f tallies + more * f (string_bytes tally.told) = omega (arith, there, sums) in
    counted ∙ ap (λ t. told_weight f tallies + more * f t) same

texts_push : (tallies : List Tally) (tally : Tally) → texts (tallies ++ tally ∷ []) ≡ texts tallies ++ string_bytes tally.told ∷ []
texts_push [] tally = refl
texts_push (x ∷ tallies) tally = ap (λ (ts : List (List ℕ)). string_bytes x.told ∷ ts) (texts_push tallies tally)

pub distinct_push : (tallies : List Tally) (tally : Tally) → AreDistinct tallies → All (λ t. string_bytes t.told ≢ string_bytes tally.told) tallies → AreDistinct (tallies ++ tally ∷ [])
distinct_push tallies tally all new =
    subst (AllPairs (λ one other. one ≢ other)) (sym (texts_push tallies tally))
    (all_pairs_push (λ (one other : List ℕ). one ≢ other) (texts tallies) (string_bytes tally.told) all
    (All-map (λ (text : List ℕ). text ≢ string_bytes tally.told) (λ (t : Tally). string_bytes t.told) tallies new))

pub firsts_raised : (tallies : List Tally) (i more : ℕ) (tally : Tally) → slice_get tallies i ≡ Some tally → map first_of (slice_set tallies i (raised tally more)) ≡ map first_of tallies
firsts_raised [] i more tally e = absurd (none-some tally e)
firsts_raised (x ∷ tallies) zero more tally e = ap (λ (t : Tally). first_of t ∷ map first_of tallies) (sym (same_Some x tally e))
firsts_raised (x ∷ tallies) (suc i) more tally e = ap (λ (ts : List (List ℕ × List ℕ)). first_of x ∷ ts) (firsts_raised tallies i more tally e)

pub firsts_push : (tallies : List Tally) (tally : Tally) → map first_of (tallies ++ tally ∷ []) ≡ map first_of tallies ++ first_of tally ∷ []
firsts_push [] tally = refl
firsts_push (x ∷ tallies) tally = ap (λ (ts : List (List ℕ × List ℕ)). first_of x ∷ ts) (firsts_push tallies tally)

-- the orders of one outcome are among those of all
pub told_within : (tallies : List Tally) (i : ℕ) (tally : Tally) → slice_get tallies i ≡ Some tally → tally.count ≤ told_weight (λ text. 1) tallies
told_within tallies i tally e =
    let f : Tally → ℕ = λ t. t.count * 1 in
    omega (arith, get_or-le-sum_by f tallies i tally (slice_get_within tallies i tally e), ap f (get_or_from_slice_get tallies i tally tally e))
