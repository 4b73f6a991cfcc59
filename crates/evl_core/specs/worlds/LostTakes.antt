-- The tokens of a machine's table, of which each thread of the board has one.
use Rattle.std.specs.Prelude.{◌≡◌, ◌≢◌, ℕ, ◌<◌, Option}
use mathlib.Core.Option.{some}
use lib.ListN.{get_elem?}
use Rattle.atomic_table.specs.Table.{State}
use Rattle.evl_kernel.specs.state.KernelViews.{KernelView}
use Rattle.evl_words.specs.Hands.{places_of}
use Rattle.evl_words.specs.MutexWorld.{MutexView}
use Rattle.evl_core.specs.declared.views.ThreadView.{ThreadView}
use Rattle.evl_core.specs.accounts.Accounts.{threads_of}
use Rattle.evl_core.specs.rule.Known.{CoreHand}

abbrev pub Thread : Type 0 → Type 0
Thread C = ThreadView (KernelView C) MutexView

-- each thread of the board is some token's, as it is from the opening on, since tokens are only split and joined
abbrev pub AllAreDealt : {C : Type 0} → KernelView C → State (Option (KernelView C)) (CoreHand C) → Type 0
AllAreDealt {C} first s = (j : ℕ) → j < threads_of first.history → (id : ℕ) × (hand : CoreHand C) × (get_elem? s.views id ≡ some hand) × (places_of j hand ≢ 0)
