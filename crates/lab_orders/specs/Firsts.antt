-- The first moments at which something holds.
use Rattle.std.specs.Prelude.{ℕ, ◌≡◌, ◌+◌, ◌<◌, Bool, true, false, ⊤, List, [], ◌∷◌, length, All, Some}
use Rattle.lab_orders.specs.Machines.{Machine, led_along, runs}
use Rattle.lab_orders.specs.declared.firsts.First.{First}
use Rattle.lab_orders.specs.declared.firsts.First.TheVariants.{Nowhere, After}

-- it holds after no run of so many steps
abbrev pub HoldsAfterNone : {S : Type 0} → Machine S → S → (S → Bool) → ℕ → Type 0
HoldsAfterNone m s holds k = All (λ run. holds run.at ≡ false) (runs m s k)

-- an order leads to where it holds, and no run of fewer steps does
pub record LeadsFirst {S : Type 0} (m : Machine S) (s : S) (holds : S → Bool) (order : List ℕ) : Type 0 where
  pub at : S
  pub leads : led_along m s order ≡ Some at
  pub so : holds at ≡ true
  pub sooner : (k : ℕ) → k < length order → HoldsAfterNone m s holds k

-- the first order to where it holds, among the runs of fewer steps; or there is none
abbrev pub IsFirst : {S : Type 0} → Machine S → S → (S → Bool) → ℕ → First → Type 0
IsFirst m s holds steps Nowhere = (k : ℕ) → k < steps → HoldsAfterNone m s holds k
IsFirst m s holds steps (After order) = (length order.items < steps) × LeadsFirst m s holds order.items

-- rule: For each question about moments the first order to a moment as it looks for is reported, a shortest one; if
--   none is, no moment of any run that was gone through is so. All that is looked for is a function of the kernel's
--   records: that all facts are so, or, of `always`, that not all are. Moments that are merged have the same records,
--   so the same facts.
--   also: Facts.is_so; Watches.is_noted; Verdicts.{is_found_against, state_against}
--   clauses: explore: firsts; outcomes_of; state_against
--   rows: each_moment_is_asked
-- of each question, where the first of these has the number n
abbrev pub AreFirsts : {S : Type 0} → Machine S → S → (ℕ → S → Bool) → ℕ → ℕ → List First → Type 0
AreFirsts m s holds steps n [] = ⊤
AreFirsts m s holds steps n (first ∷ firsts) = IsFirst m s (holds n) steps first × AreFirsts m s holds steps (n + 1) firsts
