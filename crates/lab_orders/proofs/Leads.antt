-- The moments that steps lead to, one after another.
use Rattle.std.proofs.Common.{◌≡◌, ℕ, ◌+◌, List, [], ◌∷◌, ◌++◌, get_or, length, take, refl, sym, ◌∙◌, ap}
use Rattle.std.specs.Prelude.{◌<◌, ◌≤◌, Option, Some, None, option_and_then}
use Rattle.std.proofs.lemmas.List.{take_all, take_more}
use Rattle.lab_orders.specs.Machines.{Machine, led_along}

module _ {S : Type 0} (m : Machine S) where
  through : (front rest : List ℕ) → ((t : S) → led_along m t (front ++ rest) ≡ option_and_then (λ u. led_along m u rest) (led_along m t front)) → (o : Option S)
      → option_and_then (λ t. led_along m t (front ++ rest)) o ≡ option_and_then (λ u. led_along m u rest) (option_and_then (λ t. led_along m t front) o)
  through front rest h None = refl
  through front rest h (Some t) = h t

  pub led_on : (front rest : List ℕ) (s : S) → led_along m s (front ++ rest) ≡ option_and_then (λ u. led_along m u rest) (led_along m s front)
  led_on [] rest s = refl
  led_on (c ∷ front) rest s = through front rest (led_on front rest) (m.go s c)

  -- and by one step more
  pub led_more : (s t u : S) (order : List ℕ) (c : ℕ) → led_along m s order ≡ Some t → m.go t c ≡ Some u → led_along m s (order ++ c ∷ []) ≡ Some u
  led_more s t u order c e f =
      led_on order (c ∷ []) s
      ∙ (ap (option_and_then (λ v. led_along m v (c ∷ []))) e
      ∙ ap (option_and_then (λ v. led_along m v [])) f)

  -- the next step of an order
  pub led_next : (s t u : S) (order : List ℕ) (i c : ℕ) → i < length order → get_or order i 0 ≡ c → led_along m s (take i order) ≡ Some t → m.go t c ≡ Some u
      → led_along m s (take (i + 1) order) ≡ Some u
  led_next s t u order i c lt is e f =
      ap (led_along m s) (take_more order i 0 lt ∙ ap (λ d. take i order ++ d ∷ []) is) ∙ led_more s t u (take i order) c e f

  -- and all of them
  pub led_all : (s t : S) (order : List ℕ) (i : ℕ) → length order ≤ i → led_along m s (take i order) ≡ Some t → led_along m s order ≡ Some t
  led_all s t order i le e = ap (led_along m s) (sym (take_all i order le)) ∙ e
