-- Lists that are compared place by place, by what two functions show of each, and waiters that are compared.
use Rattle.std.proofs.Common.{◌≡◌, ℕ, ◌+◌, ◌<◌, ◌==◌, ◌&&◌, List, length, map, take, slice_index_or, sym, ap, ◌∙◌, arith}
use Rattle.std.specs.Bool.{Decides}
use Rattle.std.proofs.lemmas.Bool.Decides.{Decides-and, Decides-eqb, Decides-like}
use Rattle.std.proofs.lemmas.List.{get_or_default, take_more_same}
use Rattle.evl_mutex.specs.declared.waiter.Waiter.{Waiter}
use Rattle.evl_mutex.proofs.ListLaws.{at-map, count-map}

pub Decides-waiter : (a b : Waiter) → Decides ((a.thread == b.thread) && (a.rank == b.rank)) (a ≡ b)
Decides-waiter a b =
    Decides-like _ (λ e k. record { thread = e.0 k; rank = e.1 k }) (λ e. (ap (λ w. w.thread) e, ap (λ w. w.rank) e))
    (Decides-and _ _ (Decides-eqb a.thread b.thread) (Decides-eqb a.rank b.rank))

module _ {X Y Z : Type 0} (f : X → Z) (g : Y → Z) (xs : List X) (ys : List Y) (n : ℕ) (x : X) (y : Y) where
  -- what is at a place
  pub alike-at : n < length ys → x ≡ slice_index_or xs n x → y ≡ slice_index_or ys n y → map f xs ≡ map g ys → f x ≡ g y
  alike-at within there too e =
      ap f there ∙ sym (at-map f xs n x) ∙ ap (λ zs. slice_index_or zs n (f x)) e
      ∙ get_or_default (map g ys) n (f x) (g y) (omega (arith, within, count-map g ys)) ∙ at-map g ys n y ∙ ap g (sym too)

  -- one place more shows the same
  pub alike-more : n < length xs → n < length ys → x ≡ slice_index_or xs n x → y ≡ slice_index_or ys n y → f x ≡ g y
      → take n (map f xs) ≡ take n (map g ys) → take (n + 1) (map f xs) ≡ take (n + 1) (map g ys)
  alike-more inside within there too same before =
      take_more_same (map f xs) (map g ys) n (f x) (omega (arith, inside, count-map f xs)) (omega (arith, within, count-map g ys)) before
      (at-map f xs n x ∙ ap f (sym there) ∙ same ∙ ap g too ∙ sym (at-map g ys n y)
      ∙ get_or_default (map g ys) n (g y) (f x) (omega (arith, within, count-map g ys)))
