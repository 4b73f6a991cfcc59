-- A free core whose kernel records of each mutex what the mutex's word says.
use Rattle.std.specs.Prelude.{◌≡◌, ◌+◌, ◌<◌, ℕ, [], ◌∷◌, slice_index, List, Some}
use mathlib.Core.Option.{some}
use Rattle.evl_kernel.specs.state.KernelViews.{KernelView}
use Rattle.evl_core.specs.rule.CoreRule.{Homes}
use Rattle.evl_core.specs.rule.Known.{ceilings_of, mutex_count}
use Rattle.evl_core.specs.rule.Ties.{AreTied}

-- rule: While the core is free, in any state of the rule: a mutex's recorded owner owns its word or is offered it; a
--   mutex with waiters has its mark; one without has a recorded owner only at a ceiling, and there the thread in the
--   word is recorded; the mark is never alone; an offer is exactly to the thread whose unfinished wait ended with it.
--   also: Ties.AreTied; Calls.TookKernel
--   clauses: free_core_is_tied; Machine::take; Held::in_word
--   rows: one_table_1; one_table_2
-- a kernel lies in the slot, and the word of each mutex, which comes after the lock's, is tied to what the kernel records of it
abbrev pub LiesTied : {C : Type 0} → KernelView C → List ℕ → Homes (KernelView C) → Type 0
LiesTied {C} first words homes = (k : KernelView C) × (homes ≡ some (Some k) ∷ []) × ((i : ℕ) → i < mutex_count first → AreTied (ceilings_of first) k.history.state i (slice_index words (1 + i)))
