-- All that is read of the tokens of one table.
use Rattle.std.proofs.Common.{◌≡◌, ◌≢◌, ℕ, List, [], ◌∷◌, Option, None, eqb, eq-eqb, refl, sym, ap, ◌∙◌, subst, arith}
use mathlib.Core.Option.{some}
use lib.ListN.{get_elem?}
use Rattle.atomic_table.specs.Table.{State}
use Rattle.atomic_table.proofs.Lists.{at_map}
use Rattle.evl_kernel.specs.state.KernelViews.{KernelView}
use Rattle.evl_words.specs.Hands.{Hand, Deals, place, places_of}
use Rattle.evl_words.proofs.Dealing.{one_if, places_of-cons}
use Rattle.evl_words.proofs.Sequences.{total_two}
use Rattle.evl_core.specs.declared.views.Account.{Account}
use Rattle.evl_core.specs.accounts.Accounts.{Fits}
use Rattle.evl_core.specs.rule.Known.{CoreHand, KeptKnown, KernelMe}
use Rattle.evl_core.specs.rule.ThreadRule.{core_of}
use Rattle.evl_core.specs.worlds.Tokens.{HasOneHistory, IsKnownAt}
use Rattle.evl_core.proofs.accounts.Knowing.{IsOne, is_one}
use Rattle.evl_core.proofs.accounts.OneHistory.{one_history}

-- no seat is in two hands
hands_apart : {V : Type 0} (views : List V) (hands : List (Hand V)) (id other j k : ℕ) (v w : V) → Deals views hands → id ≢ other → get_elem? hands id ≡ some (place j v ∷ []) → get_elem? hands other ≡ some (place k w ∷ []) → j ≢ k
hands_apart views hands id other j k v w d ne here there same =
    let two = total_two (places_of k) hands id other (place j v ∷ []) (place k w ∷ []) ne here there in
    let one : places_of k (place j v ∷ []) ≡ 1 = omega (arith, one_if (eqb j k) (eq-eqb j k same), places_of-cons k (place j v) []) in
    let also : places_of k (place k w ∷ []) ≡ 1 = omega (arith, one_if (eqb k k) (eq-eqb k k refl), places_of-cons k (place k w) []) in
    let o = d.once k in
    absurd (omega arith)

module _ {C : Type 0} (first : KernelView C) (s : State (Option (KernelView C)) (CoreHand C)) (d : KeptKnown first s) where
  -- a token of one account has one thread, whose view is that of the table
  only : (id : ℕ) (a : Account) (known : IsKnownAt s id a) → IsOne known.me None a []
  only id a known = is_one known.me.0 known.me.1 None a [] known.account

  here : (id : ℕ) (a : Account) (known : IsKnownAt s id a) → get_elem? s.views id ≡ some (place (only id a known).number (only id a known).thread ∷ [])
  here id a known = known.at ∙ ap (λ (m : KernelMe C). some m.0) (only id a known).me_is

  fits_all : (id : ℕ) (a : Account) → IsKnownAt s id a → Fits d.kept.locked.1.history a
  fits_all id a known =
      let o = only id a known in
      let are = d.deals.same id (place o.number o.thread ∷ []) (here id a known) in
      subst (Fits d.kept.locked.1.history) o.account_is (d.kept.locked.1.fits o.number o.thread.core (at_map core_of d.views o.number o.thread are.0))

  two_apart : (id other : ℕ) (a b : Account) → id ≢ other → IsKnownAt s id a → IsKnownAt s other b → a.thread ≢ b.thread
  two_apart id other a b ne known also same =
      let o = only id a known in
      let p = only other b also in
      hands_apart d.views s.views id other o.number p.number o.thread p.thread d.deals ne (here id a known) (here other b also)
      (ap (λ (x : Account). x.thread) o.account_is ∙ same ∙ sym (ap (λ (x : Account). x.thread) p.account_is))

  pub one_history_known : HasOneHistory s
  one_history_known = record {
    history = d.kept.locked.1.history;
    legal = d.kept.locked.1.legal;
    strangers = d.kept.locked.1.strangers;
    fits = fits_all;
    two = λ id other a b ne known also. one_history d.kept.locked.1.history a b (two_apart id other a b ne known also) known.sound also.sound (fits_all id a known) (fits_all other b also);
  }
