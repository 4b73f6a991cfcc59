-- Sums over some of a list.
use Rattle.std.proofs.Common.{◌≡◌, ℕ, ◌+◌, ◌*◌, ◌<◌, ◌≤◌, Bool, true, false, List, [], ◌∷◌, get_or, length, map, take, refl, ◌∙◌, arith}
use Rattle.std.specs.Prelude.{if◌then◌else◌, string_bytes, sum_by}
use Rattle.std.proofs.lemmas.List.Sums.{sum_by-cons, sum_by_more_le_part}
use Rattle.lab_orders.specs.Tallies.{told_weight}
use Rattle.lab_orders.specs.declared.tallies.Tally.{Tally}
use Rattle.lab_orders.specs.Answers.{all_orders, row, rows_of}
use Rattle.lab_orders.specs.Answers as answers
use Rattle.lab_orders.specs.Seen.{seen_rows}
use Rattle.lab_orders.specs.declared.counts.Row.{Row}

pub sum_map : {X Y : Type 0} (f : Y → ℕ) (g : X → Y) (xs : List X) → sum_by f (map g xs) ≡ sum_by (λ x. f (g x)) xs
sum_map f g [] = refl
sum_map f g (x ∷ xs) = omega (arith, sum_by-cons f (g x) (map g xs), sum_by-cons (λ x. f (g x)) x xs, sum_map f g xs)

sum_same : {X : Type 0} (f g : X → ℕ) (xs : List X) → ((x : X) → f x ≡ g x) → sum_by f xs ≡ sum_by g xs
sum_same f g [] same = refl
sum_same f g (x ∷ xs) same = omega (arith, sum_by-cons f x xs, sum_by-cons g x xs, same x, sum_same f g xs same)

pub those_with : (b : Bool) (n : ℕ) → (if b then n else 0) ≤ n
those_with true n = omega arith
those_with false n = omega arith

pub those_without : (b : Bool) (n : ℕ) → (if b then 0 else n) ≤ n
those_without true n = omega arith
those_without false n = omega arith

-- the orders of one row more are among those of all
pub one_more : (f : Row → ℕ) (rows : List Row) (i : ℕ) (d : Row) → i < length rows → ((row : Row) → f row ≤ row.count) → sum_by f (take i rows) + (get_or rows i d).count ≤ all_orders (seen_rows rows)
one_more f rows i d lt less =
    omega (arith, sum_by_more_le_part f (λ (row : Row). row.count) rows i d lt less, sum_map (λ (row : answers.Row). row.1) (λ (row : Row). (row.told.now, row.count)) rows)

-- the orders of all rows are those of all outcomes
pub all_rows : (who : List ℕ) (outcomes : List Tally) → all_orders (rows_of who outcomes) ≡ told_weight (λ told. 1) outcomes
all_rows who outcomes =
    sum_map (λ (r : answers.Row). r.1) (λ (outcome : Tally). (row who (string_bytes outcome.told), outcome.count)) outcomes
    ∙ sum_same (λ (outcome : Tally). outcome.count) (λ (outcome : Tally). outcome.count * 1) outcomes (λ outcome. omega arith)
