-- No step of a token at a free core counts a lost take, where each thread is some token's.
use Rattle.std.proofs.Common.{◌≡◌, ◌≢◌, ℕ, suc, ◌<◌, List, [], ◌∷◌, length, map, set, get_or, Option, eqb, ne_eqb, refl, sym, ap, ◌∙◌, subst, ⊎_elim, length-set, arith}
use Rattle.std.proofs.lemmas.List.{length-map}
use mathlib.Core.Logic.{dite}
use mathlib.Core.Option.{some, some-injective}
use native.Mathlib.Decide.{ℕ_discrete}
use lib.ListN.{get_elem?}
use Rattle.atomic_table.specs.Table.{State}
use Rattle.atomic_table.proofs.Lists.{at_map, set_else, set_here}
use Rattle.evl_kernel.specs.state.KernelViews.{KernelView}
use Rattle.evl_words.specs.Hands.{AreOf, Hand, place, places_of}
use Rattle.evl_words.proofs.Dealing.{places_of-cons, zero_if}
use Rattle.evl_words.proofs.Sequences.{at_below, map-set}
use Rattle.evl_core.specs.accounts.Accounts.{threads_of}
use Rattle.evl_core.specs.rule.CoreRule.{IsFree, IsTaken}
use Rattle.evl_core.specs.rule.Known.{ComesFrom, CoreHand, KeptKnown, past_of}
use Rattle.evl_core.specs.lock.Lock.{LockKept}
use Rattle.evl_core.specs.worlds.LostTakes.{AllAreDealt, Thread}
use Rattle.evl_core.specs.rule.ThreadRule.{core_of}
use Rattle.evl_core.proofs.lock.LockLaws.{no_false_loss, ours_free}

-- lists of one length that are alike at each place are one
alike : {A : Type 0} (xs ys : List A) → length xs ≡ length ys → ((j : ℕ) → j < length xs → get_elem? xs j ≡ get_elem? ys j) → xs ≡ ys
alike [] [] long same = refl
alike [] (y ∷ ys) long same = absurd (omega (arith, long))
alike (x ∷ xs) [] long same = absurd (omega (arith, long))
alike (x ∷ xs) (y ∷ ys) long same = λ i. some-injective x y (same 0 (omega arith)) i ∷ alike xs ys (omega (arith, long)) (λ j less. same (suc j) (omega (arith, less))) i

-- two lists of views of which a hand has the views are alike at its seats
alike_at : {V : Type 0} (xs ys : List V) (j : ℕ) (hand : Hand V) → AreOf xs hand → AreOf ys hand → places_of j hand ≢ 0 → get_elem? xs j ≡ get_elem? ys j
alike_at xs ys j [] are are' some_ = absurd (some_ refl)
alike_at {V} xs ys j (p ∷ ps) are are' some_ = dite (ℕ_discrete p.number j)
    (λ (here : p.number ≡ j). subst (λ (i : ℕ). get_elem? xs i ≡ get_elem? ys i) here (are.0 ∙ sym are'.0))
    (λ (else : p.number ≢ j). alike_at xs ys j ps are.1 are'.1 (λ zero_. some_ (places_of-cons j p ps ∙ (let none = zero_if (eqb p.number j) (ne_eqb p.number j else) in omega (arith, none, zero_)))))

module _ {C : Type 0} (first : KernelView C) where
  -- while the core is free there are as many threads as the board had at first
  threads_are : (s : State (Option (KernelView C)) (CoreHand C)) (d : KeptKnown first s) → get_or s.words 0 0 ≡ 0 → length d.views ≡ threads_of first.history
  threads_are s d free =
      let kept = d.kept.locked.1 in
      sym (length-map d.views core_of) ∙ kept.all ∙ ⊎_elim
      (λ (f : IsFree past_of ComesFrom first kept.history (get_or s.words 0 0) s.homes (map core_of d.views)). ap threads_of (sym f.past_is) ∙ ap (λ b. b.threads) f.comes_from.board)
      (λ (t : IsTaken kept.history (get_or s.words 0 0) s.homes (map core_of d.views)). absurd (let one = t.word_is in omega (arith, one, free)))
      kept.who

  pub none_lost_free : (s t : State (Option (KernelView C)) (CoreHand C)) → KeptKnown first s → KeptKnown first t → get_or s.words 0 0 ≡ 0 → get_or t.words 0 0 ≡ 0 → AllAreDealt first s → (id k : ℕ) (u v : Thread C)
      → get_elem? s.views id ≡ some (place k u ∷ []) → t.views ≡ set s.views id (place k v ∷ []) → v.core.lost ≡ u.core.lost
  none_lost_free s t d d' free free' dealt id k u v here changed =
      no_false_loss d.kept.locked.0 d'.kept.locked.0 (get_or s.words 0 0) (get_or t.words 0 0) (map core_of d.views) k u.core v.core lock
      (subst (λ cs. LockKept d'.kept.locked.0 (get_or t.words 0 0) cs) (ap (map core_of) views ∙ map-set core_of d.views k v) d'.kept.locked.2)
      (ours_free k lock.world.state (sym free ∙ lock.world.history.tied.word))
      (at_map core_of d.views k u at)
    where
      lock : LockKept d.kept.locked.0 (get_or s.words 0 0) (map core_of d.views)
      lock = d.kept.locked.2

      at : get_elem? d.views k ≡ some u
      at = (d.deals.same id (place k u ∷ []) here).0

      within : id < length s.views
      within = at_below s.views id (place k u ∷ []) here

      now : get_elem? d'.views k ≡ some v
      now = (d'.deals.same id (place k v ∷ []) (ap (λ hs. get_elem? hs id) changed ∙ set_here s.views id (place k v ∷ []) within)).0

      other : (j : ℕ) → j ≢ k → j < length d.views → get_elem? d'.views j ≡ get_elem? d.views j
      other j ne less =
          let no_place : places_of j (place k u ∷ []) ≡ 0 = places_of-cons j (place k u) [] ∙ (let none_ = zero_if (eqb k j) (ne_eqb k j (λ q. ne (sym q))) in omega (arith, none_)) in
          let t' = dealt j (subst (λ n. j < n) (threads_are s d free) less) in
          let apart : t'.0 ≢ id = λ e. t'.3 (ap (places_of j) (some-injective t'.1 (place k u ∷ []) (sym t'.2 ∙ ap (get_elem? s.views) e ∙ here)) ∙ no_place) in
          alike_at d'.views d.views j t'.1
          (d'.deals.same t'.0 t'.1 (ap (λ hs. get_elem? hs t'.0) changed ∙ set_else s.views id t'.0 (place k v ∷ []) apart ∙ t'.2))
          (d.deals.same t'.0 t'.1 t'.2) t'.3

      views : d'.views ≡ set d.views k v
      views = alike d'.views (set d.views k v) (long ∙ sym (length-set d.views k v)) (λ j less. dite (ℕ_discrete j k)
          (λ (same : j ≡ k). ap (get_elem? d'.views) same ∙ now ∙ sym (ap (get_elem? (set d.views k v)) same ∙ set_here d.views k v (at_below d.views k u at)))
          (λ (ne : j ≢ k). other j ne (subst (λ n. j < n) long less) ∙ sym (set_else d.views k j v ne)))
        where
          long : length d'.views ≡ length d.views
          long = threads_are t d' free' ∙ sym (threads_are s d free)
