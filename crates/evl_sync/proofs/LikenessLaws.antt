-- Lists and waiters that are compared.
use Rattle.std.proofs.Common.{◌≡◌, ℕ, ◌+◌, ◌<◌, ◌==◌, ◌&&◌, List, length, take, slice_index_or, sym, ap, ◌∙◌}
use Rattle.std.proofs.lemmas.List.{get_or_default, take_more_same}
use Rattle.std.specs.Bool.{Decides}
use Rattle.std.proofs.lemmas.Bool.Decides.{Decides-and, Decides-eqb, Decides-like}
use Rattle.evl_sync.specs.declared.waiter.Waiter.{Waiter}

pub Decides-waiter : (a b : Waiter) → Decides ((a.thread == b.thread) && (a.rank == b.rank)) (a ≡ b)
Decides-waiter a b =
    Decides-like _ (λ e k. record { thread = e.0 k; rank = e.1 k }) (λ e. (ap (λ w. w.thread) e, ap (λ w. w.rank) e))
    (Decides-and _ _ (Decides-eqb a.thread b.thread) (Decides-eqb a.rank b.rank))

module _ {X : Type 0} (xs ys : List X) (n : ℕ) where
  -- one place more is the same
  pub alike-more : (x y : X) → n < length xs → n < length ys → x ≡ slice_index_or xs n x → y ≡ slice_index_or ys n y → x ≡ y → take n xs ≡ take n ys → take (n + 1) xs ≡ take (n + 1) ys
  alike-more x y inside within there too same before =
      take_more_same xs ys n x inside within before (sym there ∙ same ∙ too ∙ get_or_default ys n y x within)

  -- what is at a place
  pub alike-at : (x y : X) → n < length ys → x ≡ slice_index_or xs n x → y ≡ slice_index_or ys n y → xs ≡ ys → x ≡ y
  alike-at x y within there too e = there ∙ ap (λ zs. slice_index_or zs n x) e ∙ get_or_default ys n x y within ∙ sym too
