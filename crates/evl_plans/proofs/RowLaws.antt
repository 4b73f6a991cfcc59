-- The rows of a callback, read one after the other.
use Rattle.std.proofs.Common.{◌≡◌, ◌∙◌, ℕ, ◌+◌, ◌<◌, ◌≤◌, nat_le, nat_lt, if◌then◌else◌, List, [], ◌∷◌, ◌++◌, All, length, drop, get_or, Bool, true, false, Option, Some, None, IfSome, IfOk, option_map, option_and_then, Result, Ok, Err, codes, refl, sym, ap, subst, append_assoc}
use Rattle.std.specs.List.{AllByRecursion}
use Rattle.std.proofs.lemmas.Bool.{leb-true}
use Rattle.std.proofs.lemmas.List.Elements.{All-from_recursion}
use Rattle.toml.specs.Data.{Items, no_items, item, Members, get_member, as_table}
use Rattle.toml.specs.View.{view, items_view}
use Rattle.toml.specs.declared.value.Value.{Value}
use Rattle.toml.proofs.Views.{items_view-drop}
use Rattle.evl_pipeline.specs.declared.action.Action.{Action}
use Rattle.evl_scenario.specs.Tables.{value_or}
use Rattle.evl_scenario.specs.Values.{number_from}
use Rattle.evl_plans.specs.declared.faults.Part.{Part}
use Rattle.evl_plans.specs.Banks.{action_of, count_at, from_one, row_at, row_in, rows_from, with_row}

abbrev pub Read : Type 0
Read = Result (List (ℕ × Action)) Part

-- the whole, where these rows are done and the rest is to be read
abbrev pub after_rows : List (ℕ × Action) → Read → Read
after_rows done (Ok rest) = Ok (done ++ rest)
after_rows done (Err part) = Err part

after_one : (n : ℕ) (done : List (ℕ × Action)) (row : ℕ × Action) (rest : Read) → after_rows (done ++ row ∷ []) rest ≡ after_rows done (with_row n (Some row) rest)
after_one n done row (Ok rows) = ap (λ (r : List (ℕ × Action)). Ok r) (append_assoc done (row ∷ []) rows)
after_one n done row (Err part) = refl

-- one row more was read
pub one_row : (values : List Value) (i : ℕ) (value : Value) (done more : List (ℕ × Action)) (row : ℕ × Action) (all : Read)
    → i < length values → value ≡ get_or values i value → Some row ≡ row_at (i + 1) (view value) → more ≡ done ++ row ∷ []
    → after_rows done (rows_from (i + 1) (items_view (drop i values))) ≡ all
    → after_rows more (rows_from (i + 1 + 1) (items_view (drop (i + 1) values))) ≡ all
one_row values i value done more row all h at is pushed kept =
    let rest = rows_from (i + 1 + 1) (items_view (drop (i + 1) values)) in
    ap (λ (r : List (ℕ × Action)). after_rows r rest) pushed ∙ after_one (i + 1) done row rest
    ∙ ap (λ (o : Option (ℕ × Action)). after_rows done (with_row (i + 1) o rest)) (is ∙ ap (λ (v : Value). row_at (i + 1) (view v)) at)
    ∙ ap (λ items. after_rows done (rows_from (i + 1) items)) (sym (items_view-drop values i value h)) ∙ kept

-- what is read as a count is 1 or more
count_chosen : (n : ℕ) (b : Bool) → nat_le 1 n ≡ b → IfSome (if b then Some n else None) (λ m. 1 ≤ m)
count_chosen n true h = leb-true 1 n h
count_chosen n false h = tt

counted : (o : Option ℕ) → IfSome (option_and_then from_one o) (λ m. 1 ≤ m)
counted None = tt
counted (Some n) = count_chosen n (nat_le 1 n) refl

row_made : (every : Option ℕ) (action : Option Action) → IfSome every (λ m. 1 ≤ m)
    → IfSome {T = ℕ × Action} (option_and_then (λ every. option_map (λ action. (every, action)) action) every) (λ row. 1 ≤ row.0)
row_made None action h = tt
row_made (Some every) None h = tt
row_made (Some every) (Some action) h = h

row_period : (o : Option Members) (b : Bool) → IfSome {T = ℕ × Action} (if b then None else option_and_then row_in o) (λ row. 1 ≤ row.0)
row_period o true = tt
row_period None false = tt
row_period (Some ms) false = row_made (count_at (codes "every") ms) (action_of ms) (counted (value_or number_from 1 (get_member (codes "every") ms)))

rows_more : (n : ℕ) (o : Option (ℕ × Action)) (r : Read) → IfSome o (λ row. 1 ≤ row.0) → IfOk r (AllByRecursion (λ row. 1 ≤ row.0))
    → IfOk (with_row n o r) (AllByRecursion (λ row. 1 ≤ row.0))
rows_more n None r h k = tt
rows_more n (Some row) (Ok rows) h k = (h, k)
rows_more n (Some row) (Err part) h k = tt

periods : (n : ℕ) (values : Items) → IfOk (rows_from n values) (AllByRecursion (λ row. 1 ≤ row.0))
periods n no_items = tt
periods n (item value rest) = rows_more n (row_at n value) (rows_from (n + 1) rest) (row_period (as_table value) (nat_lt 4 n)) (periods (n + 1) rest)

-- the periods of rows that are read are 1 or more
pub rows_periods : (n : ℕ) (values : Items) (rows : List (ℕ × Action)) → rows_from n values ≡ Ok rows → All (λ row. 1 ≤ row.0) rows
rows_periods n values rows h =
    let P : Read → Type 0 = λ r. IfOk r (AllByRecursion (λ row. 1 ≤ row.0)) in
    All-from_recursion (λ row. 1 ≤ row.0) rows (subst P h (periods n values))
