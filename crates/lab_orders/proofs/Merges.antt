-- Orders of callers that have so many steps each.
use Rattle.std.proofs.Common.{◌≡◌, ℕ, ◌+◌, ◌≤◌, ◌<◌, List, [], ◌∷◌, refl, sym, ◌∙◌, ap, subst, arith, eq-eqb, add-zero}
use Rattle.std.specs.Prelude.{◌==◌, cond, Option, Some, None, IsSome, option_and_then, count_by}
use Rattle.std.proofs.lemmas.List.Sums.{sum_by-cons}
use Rattle.std.proofs.lemmas.Option.{same_Some, option_and_then_some}
use Rattle.lab_orders.specs.Machines.{Machine, led_along}
use Rattle.lab_orders.specs.Laws.{CountsSteps}

-- how often one caller is among these
abbrev times : ℕ → List ℕ → ℕ
times c order = count_by (λ e. e == c) order

times_cons : (c d : ℕ) (order : List ℕ) → times c (d ∷ order) ≡ times c (d ∷ []) + times c order
times_cons c d order =
    let first = sum_by-cons (λ (e : ℕ). cond (e == c) 1 0) d order in
    let alone = sum_by-cons (λ (e : ℕ). cond (e == c) 1 0) d [] in
    omega (arith, first, alone)

times_own : (c : ℕ) → times c (c ∷ []) ≡ 1
times_own c = ap (λ b. 0 + cond b 1 0) (eq-eqb c c refl)

some_there : {S : Type 0} (o : Option S) → IsSome o → (t : S) × (o ≡ Some t)
some_there None h = absurd (cc)
some_there (Some t) h = (t, refl)

module _ {S : Type 0} (m : Machine S) (place : S → ℕ → ℕ) (counts : CountsSteps m place) where
  pub places_along : (order : List ℕ) (s t : S) → led_along m s order ≡ Some t → (c : ℕ) → place t c ≡ place s c + times c order
  places_along [] s t e c = ap (λ u. place u c) (sym (same_Some s t e)) ∙ sym (add-zero (place s c))
  places_along (d ∷ order) s t e c =
      option_and_then_some (λ u. led_along m u order) (m.go s d) t e
      (λ u goes leads. omega (arith, places_along order u t leads c, counts s u d c goes, times_cons c d order))

  pub merges_lead : (ends : ℕ → ℕ) → ((s : S) (c : ℕ) → place s c < ends c → IsSome (m.go s c))
      → (order : List ℕ) (s : S) → ((c : ℕ) → place s c + times c order ≤ ends c) → IsSome (led_along m s order)
  merges_lead ends free [] s few = refl
  merges_lead ends free (d ∷ order) s few =
      let room : place s d < ends d = omega (arith, few d, times_cons d d order, times_own d) in
      let there = some_there (m.go s d) (free s d room) in
      subst (λ o. IsSome (option_and_then (λ v. led_along m v order) o)) (sym there.1)
      (merges_lead ends free order there.0 (λ c. omega (arith, few c, times_cons c d order, counts s there.0 d c there.1)))
