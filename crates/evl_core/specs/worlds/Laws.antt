-- The laws of a machine's core whatever its threads do.
use Rattle.std.specs.Prelude.{◌≡◌, ◌≢◌, ℕ, [], ◌∷◌, List, Option, None, slice_index, slice_set, true}
use Rattle.evl_base.specs.Board.{board_fits}
use mathlib.Core.Option.{some}
use lib.ListN.{get_elem?}
use Rattle.evl_words.specs.MutexWorld.{MutexView}
use Rattle.evl_core.specs.declared.views.ThreadView.{ThreadView}
use Rattle.atomic_table.specs.Table.{State}
use Rattle.evl_kernel.specs.histories.Histories.{IsLegal}
use Rattle.evl_kernel.specs.state.KernelViews.{KernelView}
use Rattle.evl_words.specs.Machine.{Run}
use Rattle.evl_words.specs.Events.{Event}
use Rattle.evl_words.specs.Dealings.{DealingEvent}
use Rattle.evl_core.specs.worlds.CoreWorld.{CoreWorld, CoreDealing, CoreKind, CoreHappens, CoreDealingStep, IsCoreWorld, StandsDealt, opened_core}
use Rattle.evl_core.specs.worlds.OneWorld.{IsOneWorld, OneDealing, OneDealingStep, OneKind, OneWorld, StandsInOne, opened_one}
use Rattle.evl_core.specs.rule.Known.{ComesFrom, CoreHand, KeptKnown, ceilings_of, mutex_count, past_of, room_of}
use Rattle.evl_core.specs.worlds.LostTakes.{AllAreDealt}
use Rattle.evl_words.specs.Hands.{place}

module _ (C : Type 0) where
  -- what holds of the core's word and slot, and of what its threads know, holds after any list of their atomic steps
  abbrev pub CoreEventsKeepOrder : Type 0
  CoreEventsKeepOrder =
      (first : KernelView C) (w t : CoreWorld (KernelView C) (KernelView C)) (events : List (Event (CoreKind (KernelView C))))
      → IsCoreWorld past_of room_of ComesFrom first w → Run (CoreHappens past_of room_of ComesFrom) w events t
      → IsCoreWorld past_of room_of ComesFrom first t

  -- from the opening on it holds after any list of atomic steps, among which hands of threads are split and joined
  abbrev pub CoreWorldStands : Type 0
  CoreWorldStands =
      (first k : KernelView C) → IsLegal k.history → k.history.entries ≡ [] → ComesFrom first k
      → (events : List (DealingEvent (CoreKind (KernelView C)))) (t : CoreDealing (KernelView C) (KernelView C))
      → Run (CoreDealingStep past_of room_of ComesFrom) (opened_core past_of room_of ComesFrom first k) events t
      → StandsDealt past_of room_of ComesFrom first t

  -- the core's word and slot, each mutex's word, and what the threads know keep their conditions after any list of atomic
  -- steps of the one table, among which hands are split and joined
  abbrev pub OneWorldStands : Type 0
  OneWorldStands =
      (first k : KernelView C) → board_fits k.history.board ≡ true → IsLegal k.history → k.history.entries ≡ []
      → ComesFrom first k
      → (events : List (DealingEvent (OneKind (KernelView C)))) (t : OneDealing (KernelView C) (KernelView C))
      → Run (OneDealingStep past_of room_of ComesFrom (ceilings_of first) (mutex_count first)) (opened_one past_of room_of ComesFrom (ceilings_of first) (mutex_count first) first k) events t
      → StandsInOne past_of room_of ComesFrom (ceilings_of first) (mutex_count first) first t

  -- of two worlds that keep their conditions and differ in what one thread knows, that thread has lost as many takes in the
  -- one as in the other, unless another thread had the kernel in the first
  abbrev pub TakesAreLostToAnother : Type 0
  TakesAreLostToAnother =
      (first : KernelView C) → (w t : OneWorld (KernelView C) (KernelView C))
      → IsOneWorld past_of room_of ComesFrom (ceilings_of first) (mutex_count first) first w
      → IsOneWorld past_of room_of ComesFrom (ceilings_of first) (mutex_count first) first t
      → (k : ℕ) (u v : ThreadView (KernelView C) MutexView) → get_elem? w.views k ≡ some u
      → ((j : ℕ) (x : ThreadView (KernelView C) MutexView) → j ≢ k → get_elem? w.views j ≡ some x → x.core.taken ≡ None)
      → t.views ≡ slice_set w.views k v → v.core.lost ≡ u.core.lost

  -- of two states of the table within the rule, both with a free core, that differ in one token, which acts for one thread,
  -- that thread has lost as many takes in the one as in the other
  abbrev pub FreeCoreTurnsNoTokenAway : Type 0
  FreeCoreTurnsNoTokenAway =
      (first : KernelView C) → (s t : State (Option (KernelView C)) (CoreHand C)) → KeptKnown first s → KeptKnown first t
      → slice_index s.words 0 ≡ 0 → slice_index t.words 0 ≡ 0 → AllAreDealt first s
      → (id k : ℕ) (u v : ThreadView (KernelView C) MutexView) → get_elem? s.views id ≡ some (place k u ∷ [])
      → t.views ≡ slice_set s.views id (place k v ∷ []) → v.core.lost ≡ u.core.lost
