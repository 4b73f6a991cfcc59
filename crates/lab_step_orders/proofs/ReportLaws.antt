-- A number after those of the callers makes no turn.
use Rattle.std.proofs.Common.{◌≡◌, ℕ, zero, suc, ◌≤◌, true, false, ne_eqb, List, [], ◌∷◌, length, refl, arith}
use Rattle.std.specs.Prelude.{Option, Some, None, slice_get, slice_index, slice_index_or}
use Rattle.std.proofs.lemmas.Bool.{ltb-true}
use Rattle.lab_step_orders.specs.Cores.{has_core}
use Rattle.lab_step_orders.specs.Moments.{is_within}
use Rattle.lab_step_orders.specs.Programs.{ahead_at, next_call}
use Rattle.lab_step_orders.specs.Seen.{Seen, next_turn}
use Rattle.lab_step_orders.specs.declared.crews.Crew.{Crew}
use Rattle.lab_step_orders.specs.declared.steps.Place.{Place}
use Rattle.lab_step_orders.specs.declared.steps.Place.TheVariants.{Begins}
use Rattle.lab_step_orders.specs.declared.steps.Taken.{Taken}

none_there : {A : Type 0} (xs : List A) (k : ℕ) → length xs ≤ k → slice_get xs k ≡ None
none_there [] k le = refl
none_there (x ∷ xs) zero le = absurd (omega arith)
none_there (x ∷ xs) (suc k) le = none_there xs k (omega arith)

else_there : {A : Type 0} (xs : List A) (k : ℕ) (d : A) → length xs ≤ k → slice_index_or xs k d ≡ d
else_there [] k d le = refl
else_there (x ∷ xs) zero d le = absurd (omega arith)
else_there (x ∷ xs) (suc k) d le = else_there xs k d (omega arith)

-- nor has it the core
not_there : (n k : ℕ) (core : Option Taken) → is_within n core ≡ true → n ≤ k → has_core core k ≡ false
not_there n k None e le = refl
not_there n k (Some taken) e le = let lt = ltb-true taken.who n e in ne_eqb taken.who k (λ (same : taken.who ≡ k). omega (arith, lt, same, le))

pub no_turn_behind : (c : Crew) (s : Seen) (k : ℕ) → length s.places ≡ length c.callers.items → is_within (length c.callers.items) s.core ≡ true → length c.callers.items ≤ k → next_turn c s k ≡ None
no_turn_behind c s k long within le =
    rw (not_there (length c.callers.items) k s.core within le) rw (none_there c.callers.items k le) rw (else_there s.places k Begins (omega (arith, long, le))) refl
