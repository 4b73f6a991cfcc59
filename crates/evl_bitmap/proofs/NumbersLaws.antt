-- The numbers below a limit that pass a test: what is in the set, its least and its greatest, and what one test more or less makes of it.
use Rattle.std.proofs.Common.{◌≡◌, ◌≢◌, ℕ, zero, suc, ◌+◌, ◌<◌, ◌≤◌, ◌==◌, Bool, true, false, not, ◌&&◌, ◌||◌, [], ◌∷◌, Some, if◌then◌else◌, refl, sym, ap, ◌∙◌, arith}
use Rattle.std.proofs.lemmas.Bool.{cases_lt, eqb-false, eqb-true, ne_eqb}
use Rattle.std.proofs.Common.{⊎_elim}
use Rattle.evl_bitmap.specs.NumberSet.{contains, insert, remove, least, greatest, RisesWithin}
use Rattle.evl_bitmap.specs.Numbers.{numbers_from, numbers}
use Rattle.evl_bitmap.proofs.NumberSetLaws.{low, rises-weaken, rises-insert, rises-remove, contains-insert, contains-remove, contains_past, contains-least, least-low, least-is, contains-greatest, greatest-high, greatest-is, same_set, past_all}

module _ (passes : ℕ → Bool) where
  rises_from : (low limit count : ℕ) → low + count ≤ limit → RisesWithin low limit (numbers_from passes low count)
  unfolding numbers_from
  rises_from low limit zero h = tt
  rises_from low limit (suc count) h = by (passes low) (rises_from (low + 1) limit count (omega arith))
    where
      by : (b : Bool) → RisesWithin (low + 1) limit (numbers_from passes (low + 1) count)
          → RisesWithin low limit (if b then low ∷ numbers_from passes (low + 1) count else numbers_from passes (low + 1) count)
      by true rest = (omega arith, omega arith, rest)
      by false rest = rises-weaken low (low + 1) limit (numbers_from passes (low + 1) count) (omega arith) rest

  contains_from : (low count q : ℕ) → low ≤ q → q < low + count → contains (numbers_from passes low count) q ≡ passes q
  unfolding numbers_from
  contains_from low zero q h l = absurd (omega arith)
  contains_from low (suc count) q h l =
      by (λ below. contains_from (low + 1) count q below (omega arith)) (rises_from (low + 1) (low + 1 + count) count (omega arith)) (passes low) refl (low == q) refl
    where
      by : (low + 1 ≤ q → contains (numbers_from passes (low + 1) count) q ≡ passes q) → RisesWithin (low + 1) (low + 1 + count) (numbers_from passes (low + 1) count)
          → (b : Bool) → passes low ≡ b → (d : Bool) → (low == q) ≡ d
          → contains (if b then low ∷ numbers_from passes (low + 1) count else numbers_from passes (low + 1) count) q ≡ passes q
      by later rises true e true at = ap (λ x. x || contains (numbers_from passes (low + 1) count) q) at ∙ sym e ∙ ap passes (eqb-true low q at)
      by later rises true e false at = ap (λ x. x || contains (numbers_from passes (low + 1) count) q) at ∙ later (omega (arith, eqb-false low q at))
      by later rises false e true at =
          past_all low (low + 1 + count) q (numbers_from passes (low + 1) count) rises (omega (arith, eqb-true low q at)) ∙ sym e ∙ ap passes (eqb-true low q at)
      by later rises false e false at = later (omega (arith, eqb-false low q at))

  pub rises-numbers : (limit : ℕ) → RisesWithin 0 limit (numbers passes limit)
  unfolding numbers
  rises-numbers limit = rises_from 0 limit limit (omega arith)

  -- below the limit those are in the set that pass, and no others
  pub contains-numbers : (limit q : ℕ) → q < limit → contains (numbers passes limit) q ≡ passes q
  unfolding numbers
  contains-numbers limit q l = contains_from 0 limit q (omega arith) (omega arith)

  pub contains-numbers_past : (limit q : ℕ) → limit ≤ q → contains (numbers passes limit) q ≡ false
  contains-numbers_past limit q h = contains_past 0 limit q (numbers passes limit) (rises-numbers limit) h

  -- the least one that passes
  pub least-numbers : (limit n : ℕ) → n < limit → passes n ≡ true → ((q : ℕ) → q < n → passes q ≡ false) → least (numbers passes limit) ≡ Some n
  least-numbers limit n l there none =
      least-is 0 limit n (numbers passes limit) (rises-numbers limit) (contains-numbers limit n l ∙ there)
      (λ q below. contains-numbers limit q (omega arith) ∙ none q below)

  pub greatest-numbers : (limit n : ℕ) → n < limit → passes n ≡ true → ((q : ℕ) → n < q → q < limit → passes q ≡ false) → greatest (numbers passes limit) ≡ Some n
  greatest-numbers limit n l there none =
      greatest-is 0 limit n (numbers passes limit) (rises-numbers limit) (contains-numbers limit n l ∙ there)
      (λ q above. ⊎_elim (λ within. contains-numbers limit q within ∙ none q above within) (λ past. contains-numbers_past limit q past) (cases_lt q limit))

  -- none passes
  pub no-numbers : (limit : ℕ) → ((q : ℕ) → q < limit → passes q ≡ false) → numbers passes limit ≡ []
  no-numbers limit none =
      same_set 0 limit (numbers passes limit) [] (rises-numbers limit) tt
      (λ q. ⊎_elim (λ within. contains-numbers limit q within ∙ none q within) (λ past. contains-numbers_past limit q past) (cases_lt q limit))

  -- back from what the set says
  pub least-passes : (limit n : ℕ) → least (numbers passes limit) ≡ Some n → (n < limit) × (passes n ≡ true) × ((q : ℕ) → q < n → passes q ≡ false)
  least-passes limit n e =
      let there : contains (numbers passes limit) n ≡ true = contains-least (numbers passes limit) n e in
      let l : n < limit = (low 0 limit n (numbers passes limit) (rises-numbers limit) there).1 in
      (l, sym (contains-numbers limit n l) ∙ there, λ q below. by q below (passes q) refl)
    where
      by : (q : ℕ) → q < n → (b : Bool) → passes q ≡ b → b ≡ false
      by q below true e' =
          let l : n < limit = (low 0 limit n (numbers passes limit) (rises-numbers limit) (contains-least (numbers passes limit) n e)).1 in
          absurd (omega (arith, least-low 0 limit n q (numbers passes limit) (rises-numbers limit) e (contains-numbers limit q (omega arith) ∙ e')))
      by q below false e' = refl

  pub greatest-passes : (limit n : ℕ) → greatest (numbers passes limit) ≡ Some n → (n < limit) × (passes n ≡ true) × ((q : ℕ) → n < q → q < limit → passes q ≡ false)
  greatest-passes limit n e =
      let there : contains (numbers passes limit) n ≡ true = contains-greatest (numbers passes limit) n e in
      let l : n < limit = (low 0 limit n (numbers passes limit) (rises-numbers limit) there).1 in
      (l, sym (contains-numbers limit n l) ∙ there, λ q above within. by q above within (passes q) refl)
    where
      by : (q : ℕ) → n < q → q < limit → (b : Bool) → passes q ≡ b → b ≡ false
      by q above within true e' =
          absurd (omega (arith, greatest-high 0 limit n q (numbers passes limit) (rises-numbers limit) e (contains-numbers limit q within ∙ e')))
      by q above within false e' = refl

  pub none-passes : (limit : ℕ) → numbers passes limit ≡ [] → (q : ℕ) → q < limit → passes q ≡ false
  none-passes limit e q within = sym (contains-numbers limit q within) ∙ ap (λ s. contains s q) e

module _ (old new : ℕ → Bool) (limit : ℕ) where
  -- the same pass
  pub numbers-same : ((q : ℕ) → q < limit → new q ≡ old q) → numbers new limit ≡ numbers old limit
  numbers-same alike =
      same_set 0 limit (numbers new limit) (numbers old limit) (rises-numbers new limit) (rises-numbers old limit)
      (λ q. ⊎_elim (λ within. contains-numbers new limit q within ∙ alike q within ∙ sym (contains-numbers old limit q within))
      (λ past. contains-numbers_past new limit q past ∙ sym (contains-numbers_past old limit q past)) (cases_lt q limit))

  module _ (n : ℕ) (within_n : n < limit) (others : (q : ℕ) → q < limit → q ≢ n → new q ≡ old q) where
    -- one passes now
    pub numbers-inserted : new n ≡ true → numbers new limit ≡ insert (numbers old limit) n
    numbers-inserted there =
        same_set 0 limit (numbers new limit) (insert (numbers old limit) n) (rises-numbers new limit)
        (rises-insert 0 limit n (numbers old limit) (rises-numbers old limit) (omega arith) within_n)
        (λ q. ⊎_elim (λ within. by q within (n == q) refl ∙ sym (contains-insert (numbers old limit) n q))
        (λ past. contains-numbers_past new limit q past ∙ sym (contains-insert (numbers old limit) n q ∙ ap (λ b. b || contains (numbers old limit) q) (ne_eqb n q (omega arith)) ∙ contains-numbers_past old limit q past)) (cases_lt q limit))
      where
        by : (q : ℕ) → q < limit → (b : Bool) → (n == q) ≡ b → contains (numbers new limit) q ≡ ((n == q) || contains (numbers old limit) q)
        by q within true e = contains-numbers new limit q within ∙ ap new (sym (eqb-true n q e)) ∙ there ∙ ap (λ b. b || contains (numbers old limit) q) (sym e)
        by q within false e =
            let ne : q ≢ n = λ z. eqb-false n q e (sym z) in
            contains-numbers new limit q within ∙ others q within ne ∙ sym (contains-numbers old limit q within) ∙ ap (λ b. b || contains (numbers old limit) q) (sym e)

    -- one passes no more
    pub numbers-removed : new n ≡ false → numbers new limit ≡ remove (numbers old limit) n
    numbers-removed gone =
        same_set 0 limit (numbers new limit) (remove (numbers old limit) n) (rises-numbers new limit)
        (rises-remove 0 limit n (numbers old limit) (rises-numbers old limit))
        (λ q. ⊎_elim (λ within. by q within (n == q) refl ∙ sym (contains-remove (numbers old limit) n q))
        (λ past. contains-numbers_past new limit q past ∙ sym (contains-remove (numbers old limit) n q ∙ ap (λ b. not b && contains (numbers old limit) q) (ne_eqb n q (omega arith)) ∙ contains-numbers_past old limit q past)) (cases_lt q limit))
      where
        by : (q : ℕ) → q < limit → (b : Bool) → (n == q) ≡ b → contains (numbers new limit) q ≡ (not (n == q) && contains (numbers old limit) q)
        by q within true e = contains-numbers new limit q within ∙ ap new (sym (eqb-true n q e)) ∙ gone ∙ ap (λ b. not b && contains (numbers old limit) q) (sym e)
        by q within false e =
            let ne : q ≢ n = λ z. eqb-false n q e (sym z) in
            contains-numbers new limit q within ∙ others q within ne ∙ sym (contains-numbers old limit q within) ∙ ap (λ b. not b && contains (numbers old limit) q) (sym e)
