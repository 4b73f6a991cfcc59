-- A thread that gives the kernel back owes the ties: where it made no step on a word, and where it left one.
use Rattle.std.proofs.Common.{◌≡◌, ℕ, Bool, Option, Some, None, sym, ap, ◌∙◌, subst}
use Rattle.std.proofs.lemmas.Option.{same_Some}
use Rattle.evl_kernel.specs.state.States.{State}
use Rattle.evl_kernel.specs.histories.Histories.{History}
use Rattle.evl_words.specs.MutexWorld.{MutexKind, step_word}
use Rattle.evl_core.specs.declared.views.Noted.{Noted}
use Rattle.evl_core.specs.rule.CoreRule.{IsAbout}
use Rattle.evl_core.specs.rule.Known.{CoreHand, taken_in, ceilings_of}
use Rattle.evl_core.specs.words.MutexTokens.{HasKernel, note_in, part_of}
use Rattle.evl_core.specs.words.Noted.{Found, HasTaken, IsSettled, Notes, ceilings_in, number_of}
use Rattle.evl_core.specs.rule.Ties.{AreTied, StandsNoted}
use Rattle.evl_core.proofs.rule.TieRule.{noted}
use Rattle.evl_core.proofs.ties.TieVisits.{OthersStay, TiesStay, settled_none, settled_noted}

-- the ties stay where the records do
pub stay_same : (ceilings : ℕ → Bool) (s t : State) → t ≡ s → TiesStay ceilings s t
stay_same ceilings s t same j word tied = subst (λ (x : State). AreTied ceilings x j word) (sym same) tied

-- who has just taken the kernel may step on any mutex's word
pub taken_holds : {C : Type 0} (thread : ℕ) (h : History) (hand : CoreHand C) → HasTaken thread h hand → HasKernel hand
taken_holds thread h hand just i = (h, just.taken, subst (IsAbout i) (sym just.fresh) tt)

module _ {C : Type 0} (h : History) where
  -- no step on a word was made
  pub settled_fresh : (hand : CoreHand C) (after : State) → taken_in hand ≡ Some h → note_in hand ≡ None → TiesStay (ceilings_in hand) h.state after → IsSettled hand after
  settled_fresh hand after taken fresh stay g is i word stands =
      let same : h ≡ g = same_Some h g (sym taken ∙ is) in
      settled_none (ceilings_in hand) h.state after stay i word (subst (λ (z : History × Option Noted). StandsNoted (ceilings_in hand) z.0.state i z.1 word) (λ j. (sym same j, fresh j)) stands)

  -- what stood of the mutex at the first step on its word
  pub stood_fresh : (old new : CoreHand C) (i : ℕ) (kind : MutexKind) (so : Found) → taken_in old ≡ Some h → note_in old ≡ None → (n : Notes i kind so old new) → AreTied (ceilings_in old) h.state i n.found
  stood_fresh old new i kind so taken fresh n = subst (λ (o : Option Noted). StandsNoted (ceilings_in old) h.state i o n.found) fresh (n.stood h taken)

  -- and a give after it
  pub settled_noting : (old new : CoreHand C) (after : State) (i : ℕ) (kind : MutexKind) (so : Found) → taken_in old ≡ Some h → (n : Notes i kind so old new) → AreTied (ceilings_in old) after i (step_word n.found (number_of old) (part_of old i) kind)
      → OthersStay (ceilings_in old) i h.state after → IsSettled new after
  settled_noting old new after i kind so taken n mine others =
      subst (λ (f : ℕ → Bool). (g : History) → taken_in new ≡ Some g → (j word : ℕ) → StandsNoted f g.state j (note_in new) word → AreTied f after j word) (ap (λ f. ceilings_of f) (sym n.first))
      (λ g is j word stands.
      let same : h ≡ g = same_Some h g (sym (n.taken ∙ taken) ∙ is) in
      settled_noted (ceilings_in old) h.state after i (step_word n.found (number_of old) (part_of old i) kind) mine others j word
      (subst (λ (z : History × Option Noted). StandsNoted (ceilings_in old) z.0.state j z.1 word) (λ k. (sym same k, n.note k)) stands))
