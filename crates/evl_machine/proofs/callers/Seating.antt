-- A new table keeps its rule, and its threads are dealt out to tokens of their own, one after another.
use Rattle.std.proofs.Common.{◌≡◌, ℕ, ◌+◌, ◌-◌, ◌<◌, true, List, [], ◌∷◌, Option, Some, refl, sym, ap, ◌∙◌, subst}
use Rattle.std.specs.Prelude.{replicate}
use Rattle.atomic_table.specs.Table.{opening, Splits}
use Rattle.evl_base.specs.Board.{board_fits}
use Rattle.evl_base.specs.declared.board.Board.{Board}
use Rattle.evl_base.specs.declared.numbers.ThreadId.{ThreadId}
use Rattle.evl_base.specs.declared.entry.Entry.{Entry}
use Rattle.evl_pipeline.specs.declared.plan.Plan.{Plan}
use Rattle.evl_kernel.specs.histories.Histories.{History, Run, IsLegal, opened_kernel}
use Rattle.evl_kernel.specs.state.KernelViews.{KernelView, IsOpened}
use Rattle.evl_kernel.proofs.state.OpeningLaws.{threads_few}
use Rattle.evl_words.specs.Hands.{place, hand_from, rest_of, first_of as first_place}
use Rattle.evl_words.specs.MutexWorld.{MutexView}
use Rattle.evl_words.proofs.Dealing.{hand_step}
use Rattle.evl_core.specs.declared.views.ThreadView.{ThreadView}
use Rattle.evl_core.specs.accounts.Accounts.{newcomer, calls_by, threads_of}
use Rattle.evl_core.specs.rule.ThreadRule.{newcomer_view}
use Rattle.evl_core.specs.accounts.Seats.{CoreMe, resting, IsCaller}
use Rattle.evl_core.specs.rule.Known.{ComesFrom, CoreHand, KernelMe, KeptKnown, first_known, first_of, past_of, room_of, seen, ceilings_of, mutex_count}
use Rattle.evl_core.specs.rule.Ties.{mutex_tie}
use Rattle.evl_core.proofs.rule.ThreadSteps.{opens_thread, splits_thread}
use Rattle.evl_core.proofs.rule.TieOpens.{opens_ties}
use Rattle.evl_machine.proofs.callers.Calling.{is_caller}

module _ {C : Type 0} where
  pub comes_itself : (k : KernelView C) → ComesFrom k k
  comes_itself k = record { board = refl; bank = refl; brings = λ number callback stands. stands; handlers_are = refl; limit = refl }

  pub opens_known : (k : KernelView C) (words : List ℕ) → words ≡ replicate (1 + mutex_count k) 0 → board_fits k.history.board ≡ true → IsLegal k.history → k.history.entries ≡ [] → KeptKnown k (opening words (Some k ∷ []) (first_known k))
  opens_known k words are fits legal none_yet = opens_thread past_of room_of ComesFrom (mutex_tie past_of (ceilings_of k)) k (mutex_count k) k (threads_of k.history) refl (λ i lt. threads_few k.history.board fits) legal none_yet (comes_itself k)
      (λ i lt. opens_ties past_of k k (threads_of k.history) legal none_yet i) words are

  pub opens_as : (k key : KernelView C) (words : List ℕ) (items : List (Option (KernelView C))) → key ≡ k → words ≡ replicate (1 + mutex_count k) 0 → items ≡ Some k ∷ [] → board_fits k.history.board ≡ true → IsLegal k.history → k.history.entries ≡ []
      → KeptKnown key (opening words items (first_known key))
  opens_as k key words items same are one fits legal none_yet =
      subst (λ (x : KernelView C × List (Option (KernelView C))). KeptKnown x.0 (opening words x.1 (first_known x.0))) (λ i. (sym same i, sym one i)) (opens_known k words are fits legal none_yet)

  pub splits_known : (first : KernelView C) (id : ℕ) (hand : CoreHand C) → Splits (KeptKnown first) id hand (first_place hand) (rest_of hand)
  splits_known first id hand = splits_thread past_of room_of ComesFrom (mutex_tie past_of (ceilings_of first)) first (mutex_count first) id hand

  abbrev new_view : KernelView C → ℕ → ThreadView (KernelView C) MutexView
  new_view k n = newcomer_view k.history k (mutex_count k) n

  -- the token with the threads that are left
  abbrev pub left_from : KernelView C → ℕ → ℕ → KernelMe C
  left_from k i n = (hand_from i (replicate (n - i) (new_view k n)), [])

  abbrev hand_me : CoreHand C → KernelMe C
  hand_me hand = (hand, [])

  pub rest_goes : (k : KernelView C) (i n : ℕ) (me me' : KernelMe C) → i < n → me ≡ left_from k i n → me' ≡ (rest_of me.0, []) → me' ≡ left_from k (i + 1) n
  rest_goes k i n me me' less was now = now ∙ ap (λ (m : KernelMe C). hand_me (rest_of m.0)) was ∙ ap (λ h. hand_me (rest_of h)) (hand_step i n (new_view k n) less)

  pub seat_comes : (k : KernelView C) (i n : ℕ) (me me' : KernelMe C) → i < n → threads_of k.history ≡ n → me ≡ left_from k i n → me' ≡ (first_place me.0, me.1) → (seen me' ≡ resting (newcomer k.history i)) × (first_of me'.0 ≡ k) × (me'.0 ≡ place i (new_view k (threads_of k.history)) ∷ [])
  seat_comes k i n me me' less same was now =
      let is : me' ≡ hand_me (place i (new_view k n) ∷ []) = now ∙ ap (λ (m : KernelMe C). first_me m) was ∙ ap (λ h. hand_me (first_place h)) (hand_step i n (new_view k n) less) in
      (ap seen is, ap (λ (m : KernelMe C). first_of m.0) is, ap (λ (m : KernelMe C). m.0) is ∙ ap (λ j. place i (new_view k j) ∷ []) (sym same))
    where
      first_me : KernelMe C → KernelMe C
      first_me m = (first_place m.0, m.1)

  pub new_caller : (h : History) (t : ThreadId) (me : CoreMe (KernelView C)) → t.0 < threads_of h → IsLegal h → h.entries ≡ [] → me ≡ resting (newcomer h t.0) → IsCaller me t
  new_caller h t me member legal none_yet e =
      is_caller (newcomer h t.0) me t e refl (record { legal = legal; member = member; mine = ap (calls_by t.0) none_yet; strangers = λ u far. ap (calls_by u) none_yet })
