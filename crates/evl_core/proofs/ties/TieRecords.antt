-- The tie of each mutex to the kernel's records, over each call on a mutex, over every other call, and over what settling plays.
use Rattle.std.proofs.Common.{◌≡◌, ◌≢◌, ℕ, ◌+◌, ◌<◌, ◌==◌, ne_eqb, ◌||◌, Bool, true, false, Option, Some, None, is_some, List, [], ◌∷◌, refl, sym, ap, ◌∙◌, subst}
use Rattle.std.specs.Option.{option_map_or}
use Rattle.std.proofs.lemmas.Option.{same_Some}
use mathlib.Core.Logic.{dite}
use native.Mathlib.Decide.{ℕ_discrete}
use Rattle.evl_base.specs.declared.reply.Reply.{Reply}
use Rattle.evl_base.specs.Limits.{thread_limit}
use Rattle.evl_mutex.specs.Mutexes as record_of
use Rattle.evl_mutex.specs.Mutexes.{Mutex, has_ceiling, is_open_to, released_mutex, raised_mutex, handed_to}
use Rattle.evl_mutex.specs.declared.waiter.Waiter.{Waiter}
use Rattle.evl_words.specs.Mutex as word
use Rattle.evl_words.specs.Mutex.{unowned, seized, owned, offered, claimed_word}
use Rattle.evl_words.specs.MutexBits.{mutex_word, number_in, offers_to}
use Rattle.evl_words.specs.MutexWorld.{NamesBelow}
use Rattle.evl_words.proofs.MutexWords.{offers_to-word}
use Rattle.evl_kernel.specs.state.States.{State}
use Rattle.evl_kernel.specs.calls.ThreadCalls.{rank_of}
use Rattle.evl_kernel.specs.histories.MutexRests.{OnlyLeft}
use Rattle.evl_kernel.specs.calls.MutexEffects.{record_at, has_got, ClaimLeaves, ReleaseLeaves, RaiseLeaves, FinishLeaves}
use Rattle.evl_core.specs.rule.Ties.{IsTied, AreTied, IsLeft}
use Rattle.evl_core.proofs.ties.TieSteps.{tied_left, left_tied, claim_refused, claim_accepted, raise_tied, none_recorded, open_to_named, word_given, got_given, release_tied, accept_tied, offered_alone}

module _ (ceilings : ℕ → Bool) where
  -- settling, and every call that isn't on a mutex
  pub tied_rests : (i : ℕ) (old new : State) (word : ℕ) → OnlyLeft i old new → AreTied ceilings old i word → AreTied ceilings new i word
  tied_rests i old new word rests tied m at =
      let was = rests.records m at in
      let before = tied was.0 was.1 in
      (ap (λ k. is_some (record_of.ceiling_of k)) was.2.kind ∙ before.0, tied_left was.0 m (has_got old i) (has_got new i) word was.2 rests.got before.1)

  -- a change of another mutex, by which nobody's wait for this one was ended or finished
  pub tied_elsewhere : (i : ℕ) (old new : State) (word : ℕ) → record_at new i ≡ record_at old i → ((t : ℕ) → has_got new i t ≡ has_got old i t) → AreTied ceilings old i word → AreTied ceilings new i word
  tied_elsewhere i old new word same got tied m at =
      let before = tied m (sym same ∙ at) in
      (before.0, record { owner = before.1.owner; offer = λ t. before.1.offer t ∙ sym (got t) })

  -- what the holder left there is tied, so what is there is
  pub tied_there : (i : ℕ) (s : State) (left word : ℕ) → IsLeft (ceilings i) left word → AreTied ceilings s i left → AreTied ceilings s i word
  tied_there i s left word is tied m at =
      let before = tied m at in
      (before.0, left_tied m (has_got s i) left word (subst (λ b. IsLeft b left word) (sym before.0) is) before.1)

  -- a claim of a mutex that somebody has
  module _ (i : ℕ) (s : State) (x : word.Mutex) (k : ℕ) (small : NamesBelow thread_limit x) (here : k < thread_limit) (there : x ≢ unowned) (tied : AreTied ceilings s i (mutex_word x)) where
    pub tied_refused : AreTied ceilings s i (mutex_word (claimed_word x k))
    tied_refused m at = ((tied m at).0, claim_refused x k small here there m (has_got s i) (tied m at).1)

    pub tied_claimed : (o : ℕ) (new : State) → number_in (mutex_word x) ≡ o + 1 → ClaimLeaves s k i o new → AreTied ceilings new i (mutex_word (claimed_word x k))
    tied_claimed o new named leaves m at =
        let waiter : Waiter = record { thread = k; rank = rank_of s k } in
        let before = tied leaves.was leaves.changes.there in
        let is : record_of.claimed_mutex leaves.was waiter o ≡ m = same_Some _ _ (sym leaves.changes.now ∙ at) in
        let now = claim_accepted x k small here there leaves.was (has_got s i) waiter o named before.1 in
        subst (λ (q : Mutex). (has_ceiling q ≡ ceilings i) × IsTied q (has_got new i) (mutex_word (claimed_word x k))) is
        (before.0, record { owner = now.owner; offer = λ t. now.offer t ∙ sym (leaves.got i t) })

  -- a mutex that nobody had, raised
  pub tied_raised : (i : ℕ) (s new : State) (k : ℕ) → k < thread_limit → AreTied ceilings s i 0 → RaiseLeaves s i k new → AreTied ceilings new i (k + 1)
  tied_raised i s new k small tied leaves m at =
      let before = tied leaves.was leaves.changes.there in
      let is : raised_mutex leaves.was k ≡ m = same_Some _ _ (sym leaves.changes.now ∙ at) in
      let now = raise_tied leaves.was (has_got s i) k small leaves.ceiling before.1 in
      subst (λ (q : Mutex). (has_ceiling q ≡ ceilings i) × IsTied q (has_got new i) (k + 1)) is
      (before.0, record { owner = now.owner; offer = λ t. now.offer t ∙ sym (leaves.got i t) })

  -- a mutex that its owner handed on, as the kernel said
  pub tied_released : (i : ℕ) (s new : State) (reply : Reply) (k : ℕ) (marked : Bool) → k < thread_limit → AreTied ceilings s i (mutex_word (owned k marked)) → (leaves : ReleaseLeaves s i reply new)
      → ((next : ℕ) → (released_mutex leaves.was).next ≡ Some next → next < thread_limit) → AreTied ceilings new i (word_given (released_mutex leaves.was).next (released_mutex leaves.was).more)
  tied_released i s new reply k marked small tied leaves low m at =
      let before = tied leaves.was leaves.changes.there in
      let is : (released_mutex leaves.was).after ≡ m = same_Some _ _ (sym leaves.changes.now ∙ at) in
      let now = release_tied leaves.was low in
      let nobody : (t : ℕ) → has_got s i t ≡ false = λ t. sym (before.1.offer t) ∙ offers_to-word (owned k marked) t small in
      subst (λ (q : Mutex). (has_ceiling q ≡ ceilings i) × IsTied q (has_got new i) (word_given (released_mutex leaves.was).next (released_mutex leaves.was).more)) is
      (same_kind leaves.was ∙ before.0, record { owner = now.owner; offer = λ t. now.offer t ∙ sym (leaves.got t ∙ ap (λ b. option_map_or (λ next. next == t) (released_mutex leaves.was).next false || b) (nobody t) ∙ given (released_mutex leaves.was).next t) })
    where
      same_kind : (q : Mutex) → has_ceiling (released_mutex q).after ≡ has_ceiling q
      same_kind q = by q.waiters
        where
          by : (ws : List Waiter) → has_ceiling (handed_to q ws).after ≡ has_ceiling q
          by [] = refl
          by (w ∷ ws) = refl

      or_false : (b : Bool) → (b || false) ≡ b
      or_false true = refl
      or_false false = refl

      given : (o : Option ℕ) (t : ℕ) → (option_map_or (λ next. next == t) o false || false) ≡ got_given o t
      given None t = refl
      given (Some next) t = or_false (next == t)

  -- a mutex that was offered to the thread, and that it accepted
  pub tied_accepted : (i : ℕ) (s new : State) (k : ℕ) (marked : Bool) → k < thread_limit → AreTied ceilings s i (mutex_word (offered k marked)) → FinishLeaves s k new → AreTied ceilings new i (mutex_word (owned k marked))
  tied_accepted i s new k marked small tied leaves m at =
      let before = tied m (sym (leaves.records i) ∙ at) in
      (before.0, accept_tied m (has_got s i) (has_got new i) k marked small nobody before.1)
    where
      nobody : (t : ℕ) → has_got new i t ≡ false
      nobody t = dite (ℕ_discrete t k)
          (λ (e : t ≡ k). ap (has_got new i) e ∙ leaves.own i)
          (λ (ne : t ≢ k). leaves.others i t ne ∙ alone t ne)
        where
          alone : (t : ℕ) → t ≢ k → has_got s i t ≡ false
          alone t ne = offered_alone (has_got s i) k marked small (tied m (sym (leaves.records i) ∙ at)).1.offer t ∙ ne_eqb k t (λ e. ne (sym e))

  -- the end of a wait that didn't get the mutex
  pub tied_finished : (i : ℕ) (s new : State) (k word : ℕ) → has_got s i k ≡ false → AreTied ceilings s i word → FinishLeaves s k new → AreTied ceilings new i word
  tied_finished i s new k word not_got tied leaves = tied_elsewhere i s new word (leaves.records i) same tied
    where
      same : (t : ℕ) → has_got new i t ≡ has_got s i t
      same t = dite (ℕ_discrete t k)
          (λ (e : t ≡ k). ap (has_got new i) e ∙ leaves.own i ∙ sym (ap (has_got s i) e ∙ not_got))
          (λ (ne : t ≢ k). leaves.others i t ne)

  -- All that the tie excludes: a raise of a mutex that nobody has finds no owner recorded, a release by the owner and a claim that names it find no other one, and the accept and the forget of a wait that is over are as the kernel says
  pub raise_finds : (i : ℕ) (s : State) (m : Mutex) → AreTied ceilings s i 0 → record_at s i ≡ Some m → m.owner ≡ None
  raise_finds i s m tied at = none_recorded m (has_got s i) (tied m at).1

  pub owner_finds : (i : ℕ) (s : State) (m : Mutex) (word k : ℕ) → number_in word ≡ k + 1 → AreTied ceilings s i word → record_at s i ≡ Some m → is_open_to k m ≡ true
  owner_finds i s m word k named tied at = open_to_named m word k named (tied m at).1.owner

  pub accept_finds : (i : ℕ) (s : State) (m : Mutex) (word k : ℕ) → AreTied ceilings s i word → record_at s i ≡ Some m → offers_to word k ≡ has_got s i k
  accept_finds i s m word k tied at = (tied m at).1.offer k
