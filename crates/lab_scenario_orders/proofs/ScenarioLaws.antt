-- The steps of an order, as text.
use Rattle.std.proofs.Common.{◌≡◌, ℕ, zero, suc, ◌≤◌, List, [], ◌∷◌, ◌++◌, length, map, refl, sym, ap, ◌∙◌, arith, append_assoc}
use Rattle.std.specs.Prelude.{Option, Some, None, slice_set}
use Rattle.std.specs.Option.{option_map_or}
use Rattle.evl_scenario.specs.Writings.{opening_text, scenario_text, table_text, tables_text}
use Rattle.evl_scenario.specs.declared.steps.Step.{Step}
use Rattle.lab_scenario_orders.specs.Scenarios.{steps_before, order_scenario, steps_along}
use Rattle.lab_scenario_orders.specs.declared.callers.Callers.{Callers}

-- where the list has no such place, nothing is set
pub set_past : {A : Type 0} (xs : List A) (i : ℕ) (v : A) → length xs ≤ i → slice_set xs i v ≡ xs
set_past [] i v past = refl
set_past (x ∷ xs) zero v past = absurd (omega arith)
set_past {A} (x ∷ xs) (suc i) v past = ap (λ (ys : List A). x ∷ ys) (set_past xs i v (omega arith))

-- the text of two lists of steps
pub tables_append : (xs ys : List Step) → tables_text (xs ++ ys) ≡ tables_text xs ++ tables_text ys
tables_append [] ys = refl
tables_append (x ∷ xs) ys = ap (λ (text : List ℕ). table_text x ++ text) (tables_append xs ys) ∙ sym (append_assoc (table_text x) (tables_text xs) (tables_text ys))

-- a step and the others
pub tables_before : (step : Option Step) (steps : List Step) → tables_text (steps_before step steps) ≡ option_map_or table_text step [] ++ tables_text steps
tables_before None steps = refl
tables_before (Some step) steps = refl

-- the text of an order's scenario, as it grows
pub written : (c : Callers) (made order empty opened begun all : List ℕ) → empty ≡ [] → opened ≡ empty ++ opening_text c.board c.limit → begun ≡ opened ++ tables_text c.setup.items
    → all ≡ begun ++ tables_text (steps_along c made order) → made ≡ map (λ caller. 0) c.callers.items → all ≡ order_scenario c order
written c made order empty opened begun all none head setup along zeros =
    let first = opening_text c.board c.limit in
    let second = tables_text c.setup.items in
    let third = tables_text (steps_along c made order) in
    along ∙ (ap (λ (t : List ℕ). t ++ third) (setup ∙ ap (λ (t : List ℕ). t ++ second) (head ∙ ap (λ (t : List ℕ). t ++ first) none))
    ∙ (append_assoc first second third
    ∙ (ap (λ (t : List ℕ). first ++ t) (sym (tables_append c.setup.items (steps_along c made order)))
    ∙ ap (λ (zero_each : List ℕ). scenario_text (record { board = c.board; limit = c.limit; steps = c.setup.items ++ steps_along c zero_each order })) zeros)))
