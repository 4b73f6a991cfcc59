-- One more member of a list that is walked over, by what is left of it.
use Rattle.std.proofs.Common.{◌≡◌, ℕ, ◌+◌, ◌<◌, max, List, ◌∷◌, length, get_or, drop, sym, ap, ◌∙◌, arith}
use Rattle.std.proofs.lemmas.Grind.{common_steps}
use Rattle.std.proofs.lemmas.List.{at_drop_more}
use Rattle.std.specs.Ordering.{nat_cmp, ord_max}

pub seen-next : {X Y : Type 0} (f : List X → Y) (xs : List X) (i : ℕ) (x : X) → i < length xs → x ≡ get_or xs i x → f (drop i xs) ≡ f (x ∷ drop (i + 1) xs)
seen-next f xs i x inside at = at_drop_more f xs i x inside ∙ ap (λ y. f (y ∷ drop (i + 1) xs)) (sym at)

-- the greatest so far and of what is left
pub greatest-first : (whole : ℕ) → max 0 whole ≡ whole
greatest-first whole = omega arith

pub greatest-next : (rank here more next left whole : ℕ) → more ≡ ord_max nat_cmp rank here → left ≡ max here next → max rank left ≡ whole → max more next ≡ whole
greatest-next rank here more next left whole m l w =
    let most : ord_max nat_cmp rank here ≡ max rank here = grind (arith, common_steps) in
    omega (arith, most, m, l, w)

pub greatest-last : (rank left whole : ℕ) → left ≡ 0 → max rank left ≡ whole → rank ≡ whole
greatest-last rank left whole l w = omega arith
