-- All that a visit of a thread that has the kernel owes of the ties when it gives the kernel back, call by call: what is known of the mutex's word, and the kernel's step, give that each mutex is tied to what is recorded then.
use Rattle.std.proofs.Common.{◌≡◌, ◌≢◌, ⊎_elim, ℕ, ◌+◌, ◌<◌, ◌==◌, eq-eqb, ne_eqb, Bool, true, false, List, Option, Some, None, option_map, Result, Ok, Err, refl, sym, ap, ◌∙◌, subst, arith}
use Rattle.std.specs.Prelude.{MatchBool}
use mathlib.Core.Logic.{dite}
use native.Mathlib.Decide.{ℕ_discrete}
use Rattle.evl_base.specs.Board.{board_fits}
use Rattle.evl_base.specs.declared.call.Call.{Call}
use Rattle.evl_base.specs.declared.call.Call.TheVariants.{Claim, Release, Raise, Finish}
use Rattle.evl_base.specs.declared.numbers.MutexId.{MutexId}
use Rattle.evl_base.specs.declared.numbers.ThreadId.{ThreadId}
use Rattle.evl_base.specs.declared.play.Play.{Play}
use Rattle.evl_base.specs.declared.refusal.Refusal.{Refusal}
use Rattle.evl_base.specs.declared.reply.Reply.{Reply}
use Rattle.evl_base.specs.declared.reply.Reply.TheVariants.{Handed}
use Rattle.evl_base.specs.Limits.{thread_limit}
use Rattle.evl_mutex.specs.Mutexes.{Mutex, Handing, released_mutex}
use Rattle.evl_words.specs.Mutex as word
use Rattle.evl_words.specs.Mutex.{unowned, owned, offered, claimed_word}
use Rattle.evl_words.specs.MutexBits.{mutex_word, offer_word, number_in}
use Rattle.evl_words.specs.MutexWorld.{NamesBelow}
use Rattle.evl_kernel.specs.state.States.{State}
use Rattle.evl_kernel.specs.calls.Families.{task_of}
use Rattle.evl_kernel.specs.calls.Mutexes.{handed_told, thread_named}
use Rattle.evl_kernel.specs.histories.Histories.{History, IsLegal, Step, Follows}
use Rattle.evl_kernel.specs.calls.Serving.{answer}
use Rattle.evl_kernel.specs.calls.Effects.{Effect}
use Rattle.evl_kernel.specs.histories.MutexRests.{touches_mutex}
use Rattle.evl_kernel.specs.calls.MutexEffects.{has_got, Changes}
use Rattle.evl_kernel.proofs.histories.MutexDrops.{settling_drops, others_drop}
use Rattle.evl_kernel.proofs.calls.MutexEffects.{mutex_calls}
use Rattle.evl_core.specs.rule.Ties.{AreTied, IsLeft, IsPlain, StandsNoted}
use Rattle.evl_core.proofs.ties.TieSteps.{word_given, plain_tied}
use Rattle.evl_core.proofs.ties.TieRecords.{tied_rests, tied_elsewhere, tied_there, tied_claimed, tied_raised, tied_released, tied_accepted, tied_finished}
use Rattle.evl_core.proofs.rule.TieRule.{noted, from_true, from_false}

module _ (ceilings : ℕ → Bool) where
  -- from one moment to another the ties stay, whatever the words: of all mutexes, and of all but one
  abbrev pub TiesStay : State → State → Type 0
  TiesStay s t = (j word : ℕ) → AreTied ceilings s j word → AreTied ceilings t j word

  abbrev pub OthersStay : ℕ → State → State → Type 0
  OthersStay i s t = (j word : ℕ) → j ≢ i → AreTied ceilings s j word → AreTied ceilings t j word

  -- a visit that made no step on a word
  pub settled_none : (s t : State) → TiesStay s t → (i word : ℕ) → StandsNoted ceilings s i None word → AreTied ceilings t i word
  settled_none s t stay i word stands = stay i word stands

  -- a visit that left this word at this mutex
  pub settled_noted : (s t : State) (i left : ℕ) → AreTied ceilings t i left → OthersStay i s t → (j word : ℕ) → StandsNoted ceilings s j (Some (noted i left)) word → AreTied ceilings t j word
  settled_noted s t i left mine others j word stands = dite (ℕ_discrete j i)
      (λ (e : j ≡ i). subst (λ (n : ℕ). AreTied ceilings t n word) (sym e)
      (tied_there ceilings i t left word (from_true (i == i) (IsLeft (ceilings i) left word) (AreTied ceilings s i word) (eq-eqb i i refl) (subst (λ (n : ℕ). MatchBool (i == n) (IsLeft (ceilings n) left word) (AreTied ceilings s n word)) e stands)) mine))
      (λ (ne : j ≢ i). others j word ne (from_false (i == j) (IsLeft (ceilings j) left word) (AreTied ceilings s j word) (ne_eqb i j (λ e. ne (sym e))) stands))

  -- a refused call leaves the records
  pub refused_stays : (s t : State) (caller : ℕ) (asked : Call) (why : Refusal) (plays : List Play) → Step s caller asked (Err why) plays t → TiesStay s t
  refused_stays s t caller asked why plays step = by (answer s caller asked) step
    where
      by : (e : Effect) → Follows s e (Err why) plays t → TiesStay s t
      by (Err other) (same, none, stays) j word tied = subst (λ (x : State). AreTied ceilings x j word) (sym stays) tied
      by (Ok (given, changed)) (same, settles) j word tied = absurd (cc)

  -- of a mutex that was plain nothing is recorded, so it may have any plain word
  pub tied_plain : (s : State) (i a b : ℕ) → IsPlain a → IsPlain b → ceilings i ≡ false → AreTied ceilings s i a → AreTied ceilings s i b
  tied_plain s i a b pa pb free_of tied m at = ((tied m at).0, plain_tied m (has_got s i) a b pa pb ((tied m at).0 ∙ free_of) (tied m at).1)

  -- what was offered when the holder looked is offered still
  pub left_offered : (ceiling : Bool) (h : ℕ) (marked : Bool) (word : ℕ) → IsLeft ceiling (offer_word h marked) word → word ≡ offer_word h marked
  left_offered ceiling h marked word is = ⊎_elim (λ (e : word ≡ offer_word h marked). e) (λ (x : (ceiling ≡ false) × IsPlain (offer_word h marked) × IsPlain word). absurd (never marked x.1)) is
    where
      never : (b : Bool) → IsPlain (offer_word h b) → ⊥
      never false small = omega arith
      never true small = omega arith

  module _ (before : History) (legal : IsLegal before) (fits : board_fits before.board ≡ true) (k : ℕ) (plays : List Play) (after : State) where
    -- a call that isn't on a mutex
    pub other_stays : (asked : Call) (r : Result Reply Refusal) → Step before.state k asked r plays after → touches_mutex before.state k (task_of asked) ≡ false → TiesStay before.state after
    other_stays asked r step other j word tied = tied_rests ceilings j before.state after word (others_drop before legal fits k asked r plays after step other j) tied

    -- what holds before settling holds after it
    after_settling : (asked : Call) (reply : Reply) → Step before.state k asked (Ok reply) plays after → (mid : State) × (answer before.state k asked ≡ Ok (reply, mid)) × TiesStay mid after
    after_settling asked reply step =
        let s = settling_drops before legal fits k asked reply plays after step in
        (s.0, s.1, λ j word tied. tied_rests ceilings j s.0 after word (s.2 j) tied)

    beside : (i : ℕ) (was is : Mutex) (mid : State) → Changes i before.state was is mid → ((j t : ℕ) → j ≢ i → has_got mid j t ≡ has_got before.state j t) → OthersStay i before.state mid
    beside i was is mid changes got j word ne tied = tied_elsewhere ceilings j before.state mid word (changes.others j ne) (λ t. got j t ne) tied

    -- a claim that the kernel accepted, of a word that named its owner
    pub claim_stays : (id : MutexId) (owner : ThreadId) (until : Option ℕ) (reply : Reply) → Step before.state k (Claim id owner until) (Ok reply) plays after
        → (x : word.Mutex) → NamesBelow thread_limit x → k < thread_limit → x ≢ unowned → number_in (mutex_word x) ≡ owner.0 + 1 → AreTied ceilings before.state id.0 (mutex_word x)
        → AreTied ceilings after id.0 (mutex_word (claimed_word x k)) × OthersStay id.0 before.state after
    claim_stays id owner until reply step x small here there name tied =
        let s = after_settling (Claim id owner until) reply step in
        let c = (mutex_calls before legal fits k).claim id owner until reply s.0 s.1 in (
          s.2 id.0 (mutex_word (claimed_word x k)) (tied_claimed ceilings id.0 before.state x k small here there tied owner.0 s.0 name c),
          λ j word ne t. s.2 j word (beside id.0 c.was _ s.0 c.changes (λ j t ne. c.got j t) j word ne t),
        )

    -- a raise, of a mutex that nobody had
    pub raise_stays : (id : MutexId) (reply : Reply) → Step before.state k (Raise id) (Ok reply) plays after → k < thread_limit → AreTied ceilings before.state id.0 0 → AreTied ceilings after id.0 (k + 1) × OthersStay id.0 before.state after
    raise_stays id reply step here tied =
        let s = after_settling (Raise id) reply step in
        let c = (mutex_calls before legal fits k).raise id reply s.0 s.1 in (
          s.2 id.0 (k + 1) (tied_raised ceilings id.0 before.state s.0 k here tied c),
          λ j word ne t. s.2 j word (beside id.0 c.was _ s.0 c.changes (λ j t ne. c.got j t) j word ne t),
        )

    -- a release by the owner, whose word goes to the thread that the kernel named
    pub release_stays : (id : MutexId) (next : Option ThreadId) (more : Bool) → Step before.state k (Release id) (Ok (Handed next more)) plays after → (marked : Bool) → k < thread_limit
        → ((n : ThreadId) → next ≡ Some n → n.0 < thread_limit) → AreTied ceilings before.state id.0 (mutex_word (owned k marked))
        → AreTied ceilings after id.0 (word_given (option_map (λ n. n.0) next) more) × OthersStay id.0 before.state after
    release_stays id next more step marked here low tied =
        let s = after_settling (Release id) (Handed next more) step in
        let c = (mutex_calls before legal fits k).release id (Handed next more) s.0 s.1 in
        let h = released_mutex c.was in
        let next_is : option_map (λ n. n.0) next ≡ h.next = same_next next more h c.told in
        let more_is : more ≡ h.more = same_more next more h c.told in
        let below : (n : ℕ) → h.next ≡ Some n → n < thread_limit = λ n e. from_told next h.next next_is n e low in (
          s.2 id.0 (word_given (option_map (λ n. n.0) next) more)
              (subst (λ (z : Option ℕ × Bool). AreTied ceilings s.0 id.0 (word_given z.0 z.1)) (λ i. (sym next_is i, sym more_is i)) (tied_released ceilings id.0 before.state s.0 (Handed next more) k marked here tied c below)),
          λ j word ne t. s.2 j word (beside id.0 c.was _ s.0 c.changes c.elsewhere j word ne t),
        )
      where
        parts : (o : Option ℕ) → option_map (λ (n : ThreadId). n.0) (option_map thread_named o) ≡ o
        parts None = refl
        parts (Some n) = refl

        next_in : Reply → Option ThreadId
        next_in (Handed n m) = n
        next_in _ = None

        more_in : Reply → Bool
        more_in (Handed n m) = m
        more_in _ = false

        same_next : (next : Option ThreadId) (more : Bool) (h : Handing) → Handed next more ≡ handed_told h → option_map (λ (n : ThreadId). n.0) next ≡ h.next
        same_next next more h e = ap (λ (r : Reply). option_map (λ (n : ThreadId). n.0) (next_in r)) e ∙ parts h.next

        same_more : (next : Option ThreadId) (more : Bool) (h : Handing) → Handed next more ≡ handed_told h → more ≡ h.more
        same_more next more h e = ap more_in e

        from_told : (next : Option ThreadId) (o : Option ℕ) → option_map (λ (n : ThreadId). n.0) next ≡ o → (n : ℕ) → o ≡ Some n → ((t : ThreadId) → next ≡ Some t → t.0 < thread_limit) → n < thread_limit
        from_told None o e n is low = absurd (let f = e ∙ is in cc)
        from_told (Some t) o e n is low = let same : t.0 ≡ n = (let f : Some t.0 ≡ Some n = e ∙ is in cc) in subst (λ (x : ℕ). x < thread_limit) same (low t refl)

    -- the end of a wait that got the mutex, which was offered
    pub accept_stays : (id : MutexId) (keep : Bool) (reply : Reply) → Step before.state k (Finish keep) (Ok reply) plays after → (marked : Bool) → k < thread_limit → ((j : ℕ) → j ≢ id.0 → has_got before.state j k ≡ false) → AreTied ceilings before.state id.0 (mutex_word (offered k marked))
        → AreTied ceilings after id.0 (mutex_word (owned k marked)) × OthersStay id.0 before.state after
    accept_stays id keep reply step marked here alone tied =
        let s = after_settling (Finish keep) reply step in
        let c = (mutex_calls before legal fits k).finish keep reply s.0 s.1 in (
          s.2 id.0 (mutex_word (owned k marked)) (tied_accepted ceilings id.0 before.state s.0 k marked here tied c),
          λ j word ne t. s.2 j word (tied_finished ceilings j before.state s.0 k word (alone j ne) t c),
        )

    -- and of one that got none
    pub finish_stays : (keep : Bool) (reply : Reply) → Step before.state k (Finish keep) (Ok reply) plays after → ((j : ℕ) → has_got before.state j k ≡ false) → TiesStay before.state after
    finish_stays keep reply step none j word tied =
        let s = after_settling (Finish keep) reply step in
        let c = (mutex_calls before legal fits k).finish keep reply s.0 s.1 in
        s.2 j word (tied_finished ceilings j before.state s.0 k word (none j) tied c)
