-- Lists that are compared place by place, by what a function shows of each.
use Rattle.std.proofs.Common.{◌≡◌, ℕ, ◌+◌, ◌<◌, ◌≤◌, Bool, List, length, map, take, Option, Some, None, slice_index_or, refl, sym, ap, ◌∙◌, subst, ⊎_elim, arith}
use Rattle.std.specs.Bool.{Decides}
use Rattle.std.specs.Option.{option_eq}
use Rattle.std.proofs.lemmas.Bool.{cases_lt, false≢true}
use Rattle.std.proofs.lemmas.Option.{none-some, same_Some}
use Rattle.std.proofs.lemmas.List.{ext_get_or, get_or_default, length-map, take_more_same}
use Rattle.evl_pipeline.proofs.PortLaws.{at-map}

-- where `==` decides of items, it does of options
pub Decides-option : {A : Type 0} {E : A → A → Bool} → ((a b : A) → Decides (E a b) (a ≡ b)) → (a b : Option A) → Decides (option_eq E a b) (a ≡ b)
Decides-option d None None = (λ _. refl, λ _. refl)
Decides-option d None (Some y) = (λ e. absurd (false≢true e), λ e. absurd (none-some y e))
Decides-option d (Some x) None = (λ e. absurd (false≢true e), λ e. absurd (none-some x (sym e)))
Decides-option d (Some x) (Some y) = (λ e. ap Some ((d x y).0 e), λ e. (d x y).1 (same_Some x y e))

module _ {X Y : Type 0} (f : X → Y) where
  -- what is at a place
  pub alike-at : (xs ys : List X) (n : ℕ) (x y : X) → n < length xs → n < length ys → x ≡ slice_index_or xs n x → y ≡ slice_index_or ys n y → map f xs ≡ map f ys → f x ≡ f y
  alike-at xs ys n x y inside within there too e =
      ap f there ∙ sym (at-map f xs n x) ∙ ap (λ zs. slice_index_or zs n (f x)) e ∙ at-map f ys n x
      ∙ ap f (get_or_default ys n x y within ∙ sym too)

  -- one place more shows the same
  pub alike-more : (xs ys : List X) (n : ℕ) (x y : X) → n < length xs → n < length ys → x ≡ slice_index_or xs n x → y ≡ slice_index_or ys n y → f x ≡ f y
      → take n (map f xs) ≡ take n (map f ys) → take (n + 1) (map f xs) ≡ take (n + 1) (map f ys)
  alike-more xs ys n x y inside within there too same before =
      take_more_same (map f xs) (map f ys) n (f x) (omega (arith, inside, length-map xs f)) (omega (arith, within, length-map ys f)) before
      (at-map f xs n x ∙ ap f (sym there) ∙ same ∙ ap f (too ∙ get_or_default ys n y x within) ∙ sym (at-map f ys n x))

-- lists that are as long, and have the same at each place before one from which on there is nothing
module _ {Y : Type 0} (d : Y) (xs ys : List Y) where
  abbrev pub AreAlike : ℕ → Type 0
  AreAlike n = (k : ℕ) → k < n → slice_index_or xs k d ≡ slice_index_or ys k d

  pub places-more : (n : ℕ) → slice_index_or xs n d ≡ slice_index_or ys n d → AreAlike n → AreAlike (n + 1)
  places-more n e before k l =
      ⊎_elim (λ below. before k below) (λ past. let here : n ≡ k = omega (arith, past, l) in subst (λ j. slice_index_or xs j d ≡ slice_index_or ys j d) here e) (cases_lt k n)

  pub places-all : (m n a b : ℕ) → length xs ≡ m → length ys ≡ m → a ≤ n → b ≤ n → ((k : ℕ) → a ≤ k → slice_index_or xs k d ≡ d) → ((k : ℕ) → b ≤ k → slice_index_or ys k d ≡ d)
      → AreAlike n → xs ≡ ys
  places-all m n a b long same_long first second none nothing before =
      ext_get_or d xs ys (long ∙ sym same_long)
      (λ k l. ⊎_elim (λ below. before k below) (λ past. none k (omega (arith, first, past)) ∙ sym (nothing k (omega (arith, second, past)))) (cases_lt k n))

module _ {X Y : Type 0} (f : X → Y) (d : X) where
  -- there is nothing from a place on, whatever is shown of it
  pub nothing-shown : (xs : List X) (a : ℕ) → ((k : ℕ) → a ≤ k → slice_index_or xs k d ≡ d) → (k : ℕ) → a ≤ k → slice_index_or (map f xs) k (f d) ≡ f d
  nothing-shown xs a none k l = at-map f xs k d ∙ ap f (none k l)
