-- A look at a mutex's word by the thread that has the kernel.
use Rattle.std.proofs.Common.{◌≡◌, ◌≢◌, eq-eqb, ne_eqb, nat_eq, not, ℕ, zero, suc, ◌+◌, ◌-◌, ◌*◌, ◌/◌, ◌%◌, ◌<◌, List, [], ◌∷◌, set, get_or, bit_and, MatchOption, Option, Some, None, refl, sym, ap, ◌∙◌, subst, arith}
use Rattle.std.specs.Prelude.{⊤}
use Rattle.std.proofs.lemmas.Nat.Bits.{and_high}
use mathlib.Core.Logic.{dite}
use native.Mathlib.Decide.{ℕ_discrete}
use Rattle.std.specs.Option.{option_map}
use Rattle.std.proofs.lemmas.Option.{none-some}
use mathlib.Core.Option.{some}
use lib.ListN.{get_elem?}
use Rattle.atomic_table.specs.Table.{State, Step, Allows, keeps}
use Rattle.atomic_table.proofs.Lists.{at_map, set_again}
use Rattle.evl_base.specs.declared.numbers.ThreadId.{ThreadId}
use Rattle.evl_kernel.specs.state.KernelViews.{KernelView}
use Rattle.evl_words.specs.declared.mutex.Claim.{Claim}
use Rattle.evl_words.specs.declared.mutex.Claim.TheVariants.{Won, Queued, Seizing}
use Rattle.evl_words.specs.declared.mutex.MutexReply.{MutexReply}
use Rattle.evl_words.specs.declared.mutex.MutexReply.TheVariants.{Queued as IsQueued}
use Rattle.evl_words.specs.MutexBits.{claim_reply, number_in}
use Rattle.evl_words.specs.MutexCalls.{reply_of}
use Rattle.evl_machine.specs.declared.in_word.InWord.{InWord}
use Rattle.evl_machine.specs.callers.Actors.{SeatedActor}
use Rattle.evl_machine.specs.callers.Callers.{HasInHand}
use Rattle.evl_machine.specs.callers.Handles.{MachineState}
use Rattle.evl_core.specs.accounts.Seats.{account_of, CoreMe}
use Rattle.evl_machine.specs.mutex_locks.InWord.{Agrees, IsRead, SaysTied, in_word, owner_of}
use Rattle.evl_core.specs.words.Noted.{looked_known, Stood}
use Rattle.evl_core.specs.rule.Known.{ComesFrom, CoreHand, KeptKnown, KernelMe, ceilings_of, mutex_count, past_of, room_of, seen, taken_in}
use Rattle.evl_words.specs.Hands.{place}
use Rattle.evl_core.specs.rule.TieTells.{EventOf}
use Rattle.evl_core.specs.worlds.OneWorld.{looks}
use Rattle.evl_core.proofs.worlds.OneTurns.{event_of, look_event}
use Rattle.evl_core.specs.rule.ThreadRule.{core_of}
use Rattle.evl_core.specs.rule.Ties.{AreTied, StandsNoted}

-- a word that is written anew stays
same_word : (words : List ℕ) (i : ℕ) → set words i (get_or words i 0) ≡ words
same_word [] i = refl
same_word (w ∷ ws) zero = refl
same_word (w ∷ ws) (suc i) = λ j. w ∷ same_word ws i j

abbrev owner_told : MutexReply → Option ThreadId
owner_told (IsQueued owner) = Some (record { 0 = owner })
owner_told _ = None

told_so : (told : Claim) → owner_of told ≡ owner_told (reply_of told)
told_so Won = refl
told_so (Queued owner) = refl
told_so Seizing = refl

told_of : (word : ℕ) → owner_told (claim_reply word) ≡ (in_word word).owner
told_of word = dite (ℕ_discrete word 0)
    (λ (e : word ≡ 0). subst (λ n. owner_told (claim_reply n) ≡ (in_word n).owner) (sym e) refl)
    (λ (ne : word ≢ 0). rw (ne_eqb word 0 ne) (dite (ℕ_discrete (number_in word) 0)
    (λ (e : number_in word ≡ 0). rw (eq-eqb (number_in word) 0 e) refl)
    (λ (some : number_in word ≢ 0). rw (ne_eqb (number_in word) 0 some) refl)))

-- what a claim is answered says who owns the mutex
pub owner_reads : (told : Claim) (word : ℕ) → reply_of told ≡ claim_reply word → owner_of told ≡ (in_word word).owner
owner_reads told word e = told_so told ∙ ap owner_told e ∙ told_of word

-- the bit is the mark
pub mark_reads : (word : ℕ) → not (nat_eq (bit_and word 2147483648) 0) ≡ (in_word word).is_claimed
mark_reads word =
    let bit : bit_and word 2147483648 ≡ word / 2147483648 % 2 * 2147483648 = and_high word 1 31 in
    dite (ℕ_discrete (word / 2147483648 % 2) 1)
    (λ (e : word / 2147483648 % 2 ≡ 1). rw (ne_eqb (bit_and word 2147483648) 0 (λ none. absurd (omega (arith, bit, e, none)))) (sym (eq-eqb (word / 2147483648 % 2) 1 e)))
    (λ (ne : word / 2147483648 % 2 ≢ 1). rw (eq-eqb (bit_and word 2147483648) 0 (omega (arith, bit, ne))) (sym (ne_eqb (word / 2147483648 % 2) 1 ne)))

-- and so is the one of an offer
pub offer_reads : (word : ℕ) → not (nat_eq (bit_and word 1073741824) 0) ≡ (in_word word).is_offered
offer_reads word =
    let bit : bit_and word 1073741824 ≡ word / 1073741824 % 2 * 1073741824 = and_high word 1 30 in
    dite (ℕ_discrete (word / 1073741824 % 2) 1)
    (λ (e : word / 1073741824 % 2 ≡ 1). rw (ne_eqb (bit_and word 1073741824) 0 (λ none. absurd (omega (arith, bit, e, none)))) (sym (eq-eqb (word / 1073741824 % 2) 1 e)))
    (λ (ne : word / 1073741824 % 2 ≢ 1). rw (eq-eqb (bit_and word 1073741824) 0 (omega (arith, bit, ne))) (sym (ne_eqb (word / 1073741824 % 2) 1 ne)))

owner_read : (word o : ℕ) → number_in word ≡ o + 1 → option_map (λ (t : ThreadId). t.0) (in_word word).owner ≡ Some o
owner_read word o e =
    let some : number_in word ≢ 0 = λ none. absurd (omega (arith, e, none)) in
    let less : number_in word - 1 ≡ o = omega (arith, e) in
    rw (ne_eqb (number_in word) 0 some) (ap (λ n. Some n) less)

module _ {C : Type 0} where
  -- what holds of a mutex's word, by the rule of the table
  stands : (first : KernelView C) (s : State (Option (KernelView C)) (CoreHand C)) → KeptKnown first s → (id : ℕ) (hand : CoreHand C) → get_elem? s.views id ≡ some hand → (i : ℕ) → i < mutex_count first → Stood hand i (get_or s.words (1 + i) 0)
  stands first s d id [] there i within h taken = absurd (none-some h taken)
  stands first s d id (p ∷ ps) there i within h taken =
      let at = (d.deals.same id (p ∷ ps) there).0 in
      let core = at_map core_of d.views p.number p.view at in
      let long = d.kept.long in
      let tied = d.kept.ties i (omega arith) in
      subst (λ (b : KernelView C). StandsNoted (ceilings_of b) h.state i p.view.core.note (get_or s.words (1 + i) 0)) (sym (d.kept.locked.1.knows p.number p.view.core core)) (tied.taken p.number p.view.core h core taken)

  -- a look owes nothing, since it leaves all as it is
  pub looks_known : (first : KernelView C) (slots id : ℕ) (me : KernelMe C) (i : ℕ) → i < mutex_count first → (st : Step (Option (KernelView C))) → st.word ≡ 1 + i → Allows (KeptKnown first) slots id me (1 + i) (λ n. n) (looked_known st me)
  looks_known first slots id me i within st at s d len there below =
      let words = same_word s.words (1 + i) in
      let views = set_again s.views id me.0 there in
      let e : i ≡ st.word - 1 = omega (arith, at) in (
        me.0,
        keeps,
        tt,
        subst (KeptKnown first) (λ j. record { words = sym words j; homes = s.homes; views = sym views j }) d,
        (
          refl,
          subst (λ j. Stood me.0 j (get_or s.words (1 + i) 0)) e (stands first s d id me.0 there i within),
          λ k v others hand.
              let here = (d.deals.same id (place k v ∷ others) (there ∙ ap (λ (h : CoreHand C). some h) hand)).0 in
              let knows = d.kept.locked.1.knows k v.core (at_map core_of d.views k v here) in
              subst (λ n. EventOf past_of room_of ComesFrom ceilings_of mutex_count k v (looks n) (get_or s.words (1 + i) 0) v) (sym at)
              (event_of past_of room_of ComesFrom ceilings_of mutex_count first k v (looks (1 + i)) (get_or s.words (1 + i) 0) v knows
              (look_event past_of room_of ComesFrom ceilings_of mutex_count first s.words s.homes d.views d.kept k v here (1 + i) (omega (arith, within)))),
        ),
      )

  -- what it reads is what the kernel records
  pub agreed : (machine : MachineState C) (a : SeatedActor C) (k : KernelView C) → HasInHand machine a k → (i : ℕ) (w : InWord) → IsRead a.me.0 i w → Agrees k.history.state i w
  agreed machine a k has i w (word, said, stood) m there =
      let h = (account_of (seen a.me)).seen in
      let taken : taken_in a.me.0 ≡ Some h = ap (λ (x : CoreMe (KernelView C)). x.0.taken) has.1.holds in
      let tie = (has.4 h taken i word (stood h taken) m there).1.owner in (
        (λ o is. ap (λ (x : InWord). option_map (λ (t : ThreadId). t.0) x.owner) said ∙ owner_read word o (tie.named o is)),
        (λ waits. ap (λ (x : InWord). x.is_claimed) said ∙ tie.marked waits),
      )

  pub agreed_if : (machine : MachineState C) (a : SeatedActor C) (k : KernelView C) → HasInHand machine a k → (i : ℕ) (o : Option InWord) → MatchOption o ⊤ (IsRead a.me.0 i) → MatchOption o ⊤ (Agrees k.history.state i)
  agreed_if machine a k has i None said = said
  agreed_if machine a k has i (Some w) said = agreed machine a k has i w said

  -- and the word that it reads is tied to what the kernel records
  tied : (machine : MachineState C) (a : SeatedActor C) (k : KernelView C) → HasInHand machine a k → (i : ℕ) (w : InWord) → IsRead a.me.0 i w → SaysTied (ceilings_of machine.first) k.history.state i w
  tied machine a k has i w (word, said, stood) =
      let h = (account_of (seen a.me)).seen in
      let taken : taken_in a.me.0 ≡ Some h = ap (λ (x : CoreMe (KernelView C)). x.0.taken) has.1.holds in
      (word, said, subst (λ (f : KernelView C). AreTied (ceilings_of f) k.history.state i word) (sym (ap (λ (m : MachineState C). m.first) has.0)) (has.4 h taken i word (stood h taken)))

  pub tied_if : (machine : MachineState C) (a : SeatedActor C) (k : KernelView C) → HasInHand machine a k → (i : ℕ) (o : Option InWord) → MatchOption o ⊤ (IsRead a.me.0 i) → MatchOption o ⊤ (SaysTied (ceilings_of machine.first) k.history.state i)
  tied_if machine a k has i None said = said
  tied_if machine a k has i (Some w) said = tied machine a k has i w said
