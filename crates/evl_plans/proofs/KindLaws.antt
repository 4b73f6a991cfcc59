-- The kinds of some rows have those of each.
use Rattle.std.proofs.Common.{◌≡◌, ◌∙◌, ℕ, ◌==◌, true, List, [], ◌∷◌, All, sym, ap, bit_and, bit_or, min, max, arith}
use Rattle.std.specs.Int.{bit_at}
use Rattle.std.specs.List.{AllByRecursion}
use Rattle.std.proofs.lemmas.Cmp.{nat_eq_equiv}
use Rattle.std.proofs.lemmas.Nat.{and_or_self}
use Rattle.std.proofs.lemmas.Nat.Bits.{bit_at_and, bit_at_or, same_from_bits}
use Rattle.std.proofs.lemmas.List.Elements.{All-from_recursion}
use Rattle.evl_pipeline.specs.declared.action.Action.{Action}
use Rattle.evl_pipeline.specs.Plans.{declares, kind_of}
use Rattle.evl_plans.specs.Plans.{kinds_with}

kept : (x y z : ℕ) → min x z ≡ z → min (max x y) z ≡ z
kept x y z h = omega arith

-- a number that has all bits of another has them with more bits, too
had : (a n m : ℕ) → bit_and a n ≡ n → bit_and (bit_or a m) n ≡ n
had a n m h = same_from_bits (bit_and (bit_or a m) n) n (λ i.
    let one : min (bit_at a i) (bit_at n i) ≡ bit_at n i = sym (bit_at_and a n i) ∙ ap (λ b. bit_at b i) h in
    bit_at_and (bit_or a m) n i ∙ ap (λ b. min b (bit_at n i)) (bit_at_or a m i) ∙ kept (bit_at a i) (bit_at m i) (bit_at n i) one)

declared : (a n : ℕ) → bit_and a n ≡ n → declares a n ≡ true
declared a n h = ap (λ b. b == n) h ∙ nat_eq_equiv.refl n

stays : (kinds n : ℕ) (rows : List (ℕ × Action)) → bit_and kinds n ≡ n → bit_and (kinds_with kinds rows) n ≡ n
stays kinds n [] h = h
stays kinds n (row ∷ rest) h = stays (bit_or kinds (kind_of row.1)) n rest (had kinds n (kind_of row.1) h)

each : (kinds : ℕ) (rows : List (ℕ × Action)) → AllByRecursion (λ row. declares (kinds_with kinds rows) (kind_of row.1) ≡ true) rows
each kinds rows = from kinds rows (kinds_with kinds rows) (λ n h. h)
  where
    from : (kinds : ℕ) (rows : List (ℕ × Action)) (all : ℕ) → ((n : ℕ) → bit_and (kinds_with kinds rows) n ≡ n → bit_and all n ≡ n)
        → AllByRecursion (λ row. declares all (kind_of row.1) ≡ true) rows
    from kinds [] all h = tt
    from kinds (row ∷ rest) all h =
        (declared all (kind_of row.1) (h (kind_of row.1) (stays (bit_or kinds (kind_of row.1)) (kind_of row.1) rest (and_or_self (kind_of row.1) kinds))), from (bit_or kinds (kind_of row.1)) rest all h)

-- rows declare the kinds of their actions
pub rows_declare : (rows : List (ℕ × Action)) → All (λ row. declares (kinds_with 0 rows) (kind_of row.1) ≡ true) rows
rows_declare rows = All-from_recursion (λ row. declares (kinds_with 0 rows) (kind_of row.1) ≡ true) rows (each 0 rows)
