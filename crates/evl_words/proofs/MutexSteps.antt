-- Each step on a mutex's word keeps what holds of its world.
use Rattle.std.proofs.Common.{◌≡◌, ℕ, ◌+◌, ◌<◌, ◌≤◌, ◌≢◌, ◌⊎◌, eqb, eq-eqb, ne_eqb, cond, Bool, true, false, List, [], ◌∷◌, length, map, set, refl, sym, ap, ◌∙◌, subst, ⊎_elim, inl, inr, length-set, arith}
use Rattle.std.specs.Prelude.{bit_and, bit_or, ◌↔◌, if◌then◌else◌}
use mathlib.Core.Logic.{dite}
use mathlib.Core.Option.{some}
use native.Mathlib.Decide.{ℕ_discrete}
use lib.ListN.{get_elem?}
use prog.Atomic.{either}
use Rattle.atomic_table.proofs.Lists.{at_set, at_map, set_again}
use Rattle.evl_base.specs.declared.refusal.Refusal.TheVariants.{Again, Busy}
use Rattle.evl_words.specs.declared.mutex.MutexHold.{MutexHold}
use Rattle.evl_words.specs.declared.mutex.MutexRole.{MutexRole}
use Rattle.evl_words.specs.declared.mutex.MutexRole.TheVariants.{Bystander, Winner, Waiter, Owner}
use Rattle.evl_words.specs.declared.mutex.MutexCall.{MutexCall}
use Rattle.evl_words.specs.declared.mutex.MutexCall.TheVariants.{Try, Unlock, Claim, Settle, Offer, Free, Accept, Forget, SeenOffer}
use Rattle.evl_words.specs.declared.mutex.MutexReply.{MutexReply}
use Rattle.evl_words.specs.declared.mutex.MutexReply.TheVariants.{Passed, Refused, Done, Claimed, Seen}
use Rattle.evl_words.specs.Machine.{Run}
use Rattle.evl_words.specs.Events.{world_after}
use Rattle.evl_words.specs.Parts.{PartTurns}
use Rattle.evl_words.specs.Mutex.{Mutex, MutexStep, unowned, seized, owned, offered, mutex_machine, mutex_may, mutex_answer, mutex_change, claim_answer, claimed_word, is_owner, is_seizing, is_offered, is_marked}
use Rattle.evl_words.specs.MutexBits.{number_in, mutex_word, offer_word, offers_to, claim_reply}
use Rattle.evl_words.specs.MutexWorld.{MutexView, MutexWorld, MutexTie, MutexKind, IsMutexWorld, MutexDoes, EndsOffered, NamesBelow, tries, unlocks, claims, settles, offers, frees, asks, forgets, awaits, accepts, step_may, step_word, mutex_steps, mutex_author, mutex_entry, role_of, role_claimed, queued_role, forgotten, owns, wins, HasIt}
use Rattle.evl_words.specs.MutexRule.{MutexPart}
use Rattle.std.proofs.lemmas.List.{length-map}
use Rattle.evl_base.specs.Limits.{thread_limit}
use Rattle.evl_words.proofs.Sequences.{at_below, at_some}
use Rattle.evl_words.proofs.Machines.{run_split, run_same}
use Rattle.evl_words.proofs.Events.{moved, stands_moved, call_stands, does_turn}
use Rattle.evl_words.proofs.MutexLaws.{is_owner-change, is_seizing-change, offer_stands}
use Rattle.evl_words.proofs.MutexWords.{number_in-owned, zero_is, claim_reply-word, offers_to-word, mark-word, accept-word}

tie_after : (found : ℕ) (m : Mutex) (held : List MutexHold) → MutexTie found m held → (k : ℕ) (old : MutexHold) → get_elem? held k ≡ some old → (call : MutexCall) → mutex_may m k call
    → (n : ℕ) → n ≡ mutex_word (mutex_change m k call) → (role : MutexRole) → is_owner (mutex_change m k call) k ≡ owns role → is_seizing (mutex_change m k call) k ≡ wins role
    → NamesBelow (length held) (mutex_change m k call) → MutexTie n (mutex_change m k call) (set held k (role_of old.seats role))
tie_after found m held tie k old at call may n shows role own win below =
    let t = mutex_change m k call in
    let new = role_of old.seats role in
    let long : length (set held k new) ≡ length held = length-set held k new in record {
      few = subst (λ z. z ≤ thread_limit) (sym long) tie.few;
      word = shows;
      counted = λ j h at_j. ⊎_elim
          (λ (same : (j ≡ k) × (new ≡ h)). sym (ap (λ (z : MutexHold). z.seats) same.1) ∙ tie.counted k old at ∙ sym long)
          (λ (other : (j ≢ k) × (get_elem? held j ≡ some h)). tie.counted j h other.1 ∙ sym long)
          (at_set held k j new h at_j);
      owner = λ j h at_j. ⊎_elim
          (λ (same : (j ≡ k) × (new ≡ h)). ap (λ i. is_owner t i) same.0 ∙ own ∙ ap (λ (z : MutexHold). owns z.role) same.1)
          (λ (other : (j ≢ k) × (get_elem? held j ≡ some h)). is_owner-change m k j call other.0 may ∙ tie.owner j h other.1)
          (at_set held k j new h at_j);
      winner = λ j h at_j. ⊎_elim
          (λ (same : (j ≡ k) × (new ≡ h)). ap (λ i. is_seizing t i) same.0 ∙ win ∙ ap (λ (z : MutexHold). wins z.role) same.1)
          (λ (other : (j ≢ k) × (get_elem? held j ≡ some h)). is_seizing-change m k j call other.0 may ∙ tie.winner j h other.1)
          (at_set held k j new h at_j);
      below = subst (λ z. NamesBelow z t) (sym long) below;
    }

pub names_within : (n : ℕ) (m : Mutex) → n ≤ thread_limit → NamesBelow n m → NamesBelow thread_limit m
names_within n unowned few below = tt
names_within n (seized h) few below = omega arith
names_within n (owned h marked) few below = omega arith
names_within n (offered h marked) few below = omega arith

busy_is : (m : Mutex) (k : ℕ) → m ≢ unowned → (mutex_answer m k Try ≡ Refused Busy) × (mutex_change m k Try ≡ m)
busy_is unowned k ne = absurd (ne refl)
busy_is (seized h) k ne = (refl, refl)
busy_is (owned h marked) k ne = (refl, refl)
busy_is (offered h marked) k ne = (refl, refl)

same_seat : (h k : ℕ) → eqb h k ≡ true → h ≡ k
same_seat h k e = dite (ℕ_discrete h k) (λ q. q) (λ ne. absurd (let q = ne_eqb h k ne in cc))

owner_is : (m : Mutex) (k : ℕ) → is_owner m k ≡ true → (marked : Bool) × (m ≡ owned k marked)
owner_is unowned k e = absurd (cc)
owner_is (seized h) k e = absurd (cc)
owner_is (owned h marked) k e = (marked, ap (λ i. owned i marked) (same_seat h k e))
owner_is (offered h marked) k e = absurd (cc)

winner_is : (m : Mutex) (k : ℕ) → is_seizing m k ≡ true → m ≡ seized k
winner_is unowned k e = absurd (cc)
winner_is (seized h) k e = ap (λ i. seized i) (same_seat h k e)
winner_is (owned h marked) k e = absurd (cc)
winner_is (offered h marked) k e = absurd (cc)

offered_is : (m : Mutex) (k : ℕ) → is_offered m k ≡ true → (marked : Bool) × (m ≡ offered k marked)
offered_is unowned k e = absurd (cc)
offered_is (seized h) k e = absurd (cc)
offered_is (owned h marked) k e = absurd (cc)
offered_is (offered h marked) k e = (marked, ap (λ i. offered i marked) (same_seat h k e))

owns-queued : (role : MutexRole) → owns (queued_role role) ≡ owns role
owns-queued Bystander = refl
owns-queued Winner = refl
owns-queued Waiter = refl
owns-queued Owner = refl

wins-queued : (role : MutexRole) → false ≡ wins (queued_role role)
wins-queued Bystander = refl
wins-queued Winner = refl
wins-queued Waiter = refl
wins-queued Owner = refl

pub owns-forgotten : (role : MutexRole) → owns role ≡ owns (forgotten role)
owns-forgotten Bystander = refl
owns-forgotten Winner = refl
owns-forgotten Waiter = refl
owns-forgotten Owner = refl

wins-forgotten : (role : MutexRole) → wins role ≡ wins (forgotten role)
wins-forgotten Bystander = refl
wins-forgotten Winner = refl
wins-forgotten Waiter = refl
wins-forgotten Owner = refl

-- what a claim makes of its seat's role
claim_owner : (m : Mutex) (k : ℕ) (role : MutexRole) → is_owner m k ≡ owns role → is_owner (claimed_word m k) k ≡ owns (role_claimed (claim_answer m) role)
claim_owner unowned k role own = refl
claim_owner (seized h) k role own = own
claim_owner (owned h marked) k role own = own ∙ sym (owns-queued role)
claim_owner (offered h marked) k role own = own ∙ sym (owns-queued role)

claim_winner : (m : Mutex) (k : ℕ) (role : MutexRole) → is_seizing m k ≡ wins role → is_seizing (claimed_word m k) k ≡ wins (role_claimed (claim_answer m) role)
claim_winner unowned k role win = eq-eqb k k refl
claim_winner (seized h) k role win = win
claim_winner (owned h marked) k role win = wins-queued role
claim_winner (offered h marked) k role win = wins-queued role

claim_names : (n : ℕ) (m : Mutex) (k : ℕ) → k < n → NamesBelow n m → NamesBelow n (claimed_word m k)
claim_names n unowned k here below = here
claim_names n (seized h) k here below = below
claim_names n (owned h marked) k here below = below
claim_names n (offered h marked) k here below = below

claim_owns : (m : Mutex) (k : ℕ) → is_owner (claimed_word m k) k ≡ is_owner m k
claim_owns unowned k = refl
claim_owns (seized h) k = refl
claim_owns (owned h marked) k = refl
claim_owns (offered h marked) k = refl

module _ (w : MutexWorld) (h : IsMutexWorld w) (k : ℕ) (v : MutexView) (at : get_elem? w.views k ≡ some v) where
  abbrev m : Mutex
  m = h.state

  abbrev holds : List MutexHold
  holds = map (λ (u : MutexView). u.held) w.views

  held_at : get_elem? holds k ≡ some v.held
  held_at = at_map (λ (u : MutexView). u.held) w.views k v at

  here : k < length holds
  here = at_below holds k v.held held_at

  near : k < thread_limit
  near = let n = here in let f = h.history.tied.few in omega arith

  shown : w.word ≡ mutex_word m
  shown = h.history.tied.word

  small : NamesBelow thread_limit m
  small = names_within (length holds) m h.history.tied.few h.history.tied.below

  owning : is_owner m k ≡ owns v.held.role
  owning = h.history.tied.owner k v.held held_at

  winning : is_seizing m k ≡ wins v.held.role
  winning = h.history.tied.winner k v.held held_at

  offering : offers_to w.word k ≡ is_offered m k
  offering = ap (λ n. offers_to n k) shown ∙ offers_to-word m k small

  replying : claim_reply w.word ≡ claim_answer m
  replying = ap claim_reply shown ∙ claim_reply-word m small

  -- a call adds its entry
  adds : (call : MutexCall) → mutex_may m k call → (reply : MutexReply) → mutex_answer m k call ≡ reply → (n : ℕ) → n ≡ mutex_word (mutex_change m k call)
      → (role : MutexRole) → is_owner (mutex_change m k call) k ≡ owns role → is_seizing (mutex_change m k call) k ≡ wins role → NamesBelow (length holds) (mutex_change m k call)
      → IsMutexWorld (moved w k v n (mutex_entry k call reply ∷ []) (role_of v.held.seats role))
  adds call may reply answered n shows role own win below =
      call_stands mutex_machine unowned MutexTie w h k v at call may reply answered n (role_of v.held.seats role) (tie_after w.word m holds h.history.tied k v.held held_at call may n shows role own win below)

  -- a call that leaves the mutex as it is
  stays : (call : MutexCall) → mutex_may m k call → (reply : MutexReply) → mutex_answer m k call ≡ reply → mutex_change m k call ≡ m → (role : MutexRole) → owns v.held.role ≡ owns role → wins v.held.role ≡ wins role
      → IsMutexWorld (moved w k v w.word (mutex_entry k call reply ∷ []) (role_of v.held.seats role))
  stays call may reply answered same role own win =
      adds call may reply answered w.word (shown ∙ ap mutex_word (sym same)) role (ap (λ z. is_owner z k) same ∙ owning ∙ own) (ap (λ z. is_seizing z k) same ∙ winning ∙ win)
      (subst (λ z. NamesBelow (length holds) z) (sym same) h.history.tied.below)

  sees : IsMutexWorld (moved w k v w.word [] (role_of v.held.seats v.held.role))
  sees = stands_moved mutex_author MutexStep unowned MutexTie w h k v at [] tt m refl w.word v.held
      (subst (λ l. MutexTie w.word m l) (sym (set_again holds k v.held held_at)) h.history.tied)

  abbrev tried_as : Bool → MutexWorld
  tried_as b = moved w k v (either b (k + 1) w.word) (mutex_entry k Try (if b then Passed else Refused Busy) ∷ []) (role_of v.held.seats (if b then Owner else v.held.role))

  try_keeps : IsMutexWorld (tried_as (eqb w.word 0))
  try_keeps = dite (ℕ_discrete w.word 0)
      (λ (zero' : w.word ≡ 0).
      let e : m ≡ unowned = zero_is m (sym shown ∙ zero') in
      let number : k + 1 ≡ k + 1 + 0 = omega arith in
      subst (λ b. IsMutexWorld (tried_as b)) (sym (eq-eqb w.word 0 zero'))
      (adds Try tt Passed (ap (λ z. mutex_answer z k Try) e) (k + 1) (number ∙ ap (λ z. mutex_word (mutex_change z k Try)) (sym e))
      Owner (ap (λ z. is_owner (mutex_change z k Try) k) e ∙ eq-eqb k k refl) (ap (λ z. is_seizing (mutex_change z k Try) k) e)
      (subst (λ z. NamesBelow (length holds) (mutex_change z k Try)) (sym e) here)))
      (λ (ne : w.word ≢ 0).
      let b = busy_is m k (λ e. ne (shown ∙ ap mutex_word e)) in
      subst (λ b. IsMutexWorld (tried_as b)) (sym (ne_eqb w.word 0 ne)) (stays Try tt (Refused Busy) b.0 b.1 v.held.role refl refl))

  abbrev unlocked_as : Bool → MutexWorld
  unlocked_as b = moved w k v (either b 0 w.word) (mutex_entry k Unlock (if b then Done else Claimed) ∷ []) (role_of v.held.seats (if b then Bystander else v.held.role))

  unlock_keeps : v.held.role ≡ Owner → IsMutexWorld (unlocked_as (eqb w.word (k + 1)))
  unlock_keeps owner = let mine = owner_is m k (owning ∙ ap owns owner) in go mine.0 mine.1
    where
      go : (marked : Bool) → m ≡ owned k marked → IsMutexWorld (unlocked_as (eqb w.word (k + 1)))
      go false e =
          let n : w.word ≡ k + 1 = shown ∙ ap mutex_word e ∙ omega arith in
          subst (λ b. IsMutexWorld (unlocked_as b)) (sym (eq-eqb w.word (k + 1) n))
          (adds Unlock (false, e) Done (ap (λ z. mutex_answer z k Unlock) e) 0 (ap (λ z. mutex_word (mutex_change z k Unlock)) (sym e))
          Bystander (ap (λ z. is_owner (mutex_change z k Unlock) k) e) (ap (λ z. is_seizing (mutex_change z k Unlock) k) e)
          (subst (λ z. NamesBelow (length holds) (mutex_change z k Unlock)) (sym e) tt))
      go true e =
          let n : w.word ≡ k + 1 + 2147483648 = shown ∙ ap mutex_word e in
          let ne : w.word ≢ k + 1 = λ q. absurd (omega arith) in
          subst (λ b. IsMutexWorld (unlocked_as b)) (sym (ne_eqb w.word (k + 1) ne))
          (stays Unlock (true, e) Claimed (ap (λ z. mutex_answer z k Unlock) e) (ap (λ z. mutex_change z k Unlock) e ∙ sym e) v.held.role refl refl)

  claim_keeps : IsMutexWorld (moved w k v (bit_or w.word 2147483648) (mutex_entry k Claim (claim_reply w.word) ∷ []) (role_of v.held.seats (role_claimed (claim_reply w.word) v.held.role)))
  claim_keeps =
      let role = role_claimed (claim_reply w.word) v.held.role in
      let same : role_claimed (claim_answer m) v.held.role ≡ role = ap (λ r. role_claimed r v.held.role) (sym replying) in
      adds Claim tt (claim_reply w.word) (sym replying) (bit_or w.word 2147483648) (ap (λ n. bit_or n 2147483648) shown ∙ mark-word m k small)
      role (claim_owner m k v.held.role owning ∙ ap owns same) (claim_winner m k v.held.role winning ∙ ap wins same) (claim_names (length holds) m k here h.history.tied.below)

  -- a claim takes the mutex from nobody and gives it to nobody
  pub claim_owns_same : owns (role_claimed (claim_reply w.word) v.held.role) ≡ owns v.held.role
  claim_owns_same = ap (λ r. owns (role_claimed r v.held.role)) replying ∙ sym (claim_owner m k v.held.role owning) ∙ claim_owns m k ∙ owning

  settle_keeps : v.held.role ≡ Winner → IsMutexWorld (moved w k v (k + 1) (mutex_entry k Settle Passed ∷ []) (role_of v.held.seats Owner))
  settle_keeps winner =
      let number : k + 1 ≡ k + 1 + 0 = omega arith in
      adds Settle (winner_is m k (winning ∙ ap wins winner)) Passed refl (k + 1) number Owner (eq-eqb k k refl) refl here

  offer_keeps : (next : ℕ) (more : Bool) → v.held.role ≡ Owner → next < v.held.seats → IsMutexWorld (moved w k v (offer_word next more) (mutex_entry k (Offer next more) Done ∷ []) (role_of v.held.seats Bystander))
  offer_keeps next more owner within =
      let all = h.history.tied.counted k v.held held_at in
      adds (Offer next more) (owner_is m k (owning ∙ ap owns owner)) Done refl (offer_word next more) refl Bystander refl refl (omega arith)

  free_keeps : v.held.role ≡ Owner → IsMutexWorld (moved w k v 0 (mutex_entry k Free Done ∷ []) (role_of v.held.seats Bystander))
  free_keeps owner = adds Free (owner_is m k (owning ∙ ap owns owner)) Done refl 0 refl Bystander refl refl tt

  ask_keeps : IsMutexWorld (moved w k v w.word (mutex_entry k SeenOffer (Seen (offers_to w.word k)) ∷ []) (role_of v.held.seats v.held.role))
  ask_keeps = stays SeenOffer tt (Seen (offers_to w.word k)) (ap (λ b. Seen b) (sym offering)) refl v.held.role refl refl

  forget_keeps : IsMutexWorld (moved w k v w.word (mutex_entry k Forget (if offers_to w.word k then Refused Busy else Done) ∷ []) (role_of v.held.seats (if offers_to w.word k then v.held.role else forgotten v.held.role)))
  forget_keeps =
      stays Forget tt (if offers_to w.word k then Refused Busy else Done) (ap (λ b. cond b (Refused Busy) Done) (sym offering)) refl (if offers_to w.word k then v.held.role else forgotten v.held.role)
      (own (offers_to w.word k)) (win (offers_to w.word k))
    where
      own : (b : Bool) → owns v.held.role ≡ owns (if b then v.held.role else forgotten v.held.role)
      own true = refl
      own false = owns-forgotten v.held.role

      win : (b : Bool) → wins v.held.role ≡ wins (if b then v.held.role else forgotten v.held.role)
      win true = refl
      win false = wins-forgotten v.held.role

  abbrev awaited_as : Bool → MutexWorld
  awaited_as b = moved w k v w.word (if b then [] else mutex_entry k Accept (Refused Again) ∷ []) (role_of v.held.seats v.held.role)

  await_keeps : IsMutexWorld (awaited_as (offers_to w.word k))
  await_keeps = go (offers_to w.word k) refl
    where
      go : (b : Bool) → offers_to w.word k ≡ b → IsMutexWorld (awaited_as b)
      go true e = sees
      go false e =
          let no : is_offered m k ≡ false = sym offering ∙ e in
          stays Accept tt (Refused Again) (ap (λ b. cond b Passed (Refused Again)) no) (ap (λ b. cond b (owned k (is_marked m)) m) no) v.held.role refl refl

  -- what a seat has seen offered to itself is offered to it still
  still_offered : EndsOffered k v.seen → is_offered m k ≡ true
  still_offered ends =
      let fits = h.history.fits k v at in
      let parts = run_split MutexStep unowned m v.seen fits.seen.0 (subst (λ l. Run MutexStep unowned l m) (sym fits.seen.1) h.history.run) in
      let same : ends.0 ≡ parts.0 = run_same mutex_machine unowned v.seen ends.0 parts.0 ends.1 parts.1 in
      offer_stands k w.log v fits parts.0 m (subst (λ z. is_offered z k ≡ true) same ends.2) parts.2

  accept_keeps : EndsOffered k v.seen → IsMutexWorld (moved w k v (bit_and w.word 18446744072635809791) (mutex_entry k Accept Passed ∷ []) (role_of v.held.seats Owner))
  accept_keeps ends =
      let yes = still_offered ends in
      let mine = offered_is m k yes in
      let b = mine.0 in
      let marked : is_marked m ≡ b = ap is_marked mine.1 in
      let new : mutex_change m k Accept ≡ owned k b = ap (λ c. cond c (owned k (is_marked m)) m) yes ∙ ap (λ c. owned k c) marked in
      adds Accept tt Passed (ap (λ c. cond c Passed (Refused Again)) yes) (bit_and w.word 18446744072635809791) (ap (λ n. bit_and n 18446744072635809791) (shown ∙ ap mutex_word mine.1) ∙ accept-word k b near ∙ ap mutex_word (sym new))
      Owner (ap (λ z. is_owner z k) new ∙ eq-eqb k k refl) (ap (λ z. is_seizing z k) new) (subst (λ z. NamesBelow (length holds) z) (sym new) here)

  pub step_keeps : (kind : MutexKind) → step_may k v kind → IsMutexWorld (world_after mutex_steps w k v kind)
  step_keeps tries may = try_keeps
  step_keeps unlocks may = unlock_keeps may
  step_keeps claims may = claim_keeps
  step_keeps settles may = settle_keeps may
  step_keeps (offers next more) may = offer_keeps next more may.0 may.1
  step_keeps frees may = free_keeps may
  step_keeps asks may = ask_keeps
  step_keeps forgets may = forget_keeps
  step_keeps awaits may = await_keeps
  step_keeps accepts may = accept_keeps may

-- each step on a mutex's word is a step of its part, and an event
pub mutex_turn : (k : ℕ) (v : MutexView) (kind : MutexKind) → step_may k v kind → PartTurns MutexPart k v (λ n. step_word n k v kind) (MutexDoes k v kind)
mutex_turn k v kind may = does_turn mutex_author MutexStep unowned MutexTie mutex_steps step_keeps k v kind may

-- the seat that a mutex names as its owner or winner
named : (m : Mutex) (j k : ℕ) → (is_owner m j ≡ true) ⊎ (is_seizing m j ≡ true) → (is_owner m k ≡ true) ⊎ (is_seizing m k ≡ true) → j ≡ k
named unowned j k a b = absurd (⊎_elim (λ (e : false ≡ true). cc) (λ (e : false ≡ true). cc) a)
named (seized h) j k a b =
    let x : h ≡ j = ⊎_elim (λ (e : false ≡ true). absurd (cc)) (λ (e : eqb h j ≡ true). same_seat h j e) a in
    let y : h ≡ k = ⊎_elim (λ (e : false ≡ true). absurd (cc)) (λ (e : eqb h k ≡ true). same_seat h k e) b in
    sym x ∙ y
named (owned h marked) j k a b =
    let x : h ≡ j = ⊎_elim (λ (e : eqb h j ≡ true). same_seat h j e) (λ (e : false ≡ true). absurd (cc)) a in
    let y : h ≡ k = ⊎_elim (λ (e : eqb h k ≡ true). same_seat h k e) (λ (e : false ≡ true). absurd (cc)) b in
    sym x ∙ y
named (offered h marked) j k a b = absurd (⊎_elim (λ (e : false ≡ true). cc) (λ (e : false ≡ true). cc) a)

-- at most one seat owns the mutex or has won it
pub one_has_it : (w : MutexWorld) → IsMutexWorld w → (j k : ℕ) (u v : MutexView) → get_elem? w.views j ≡ some u → get_elem? w.views k ≡ some v → HasIt u → HasIt v → j ≡ k
one_has_it w h j k u v at_j at_k a b =
    named h.state j k
    (⊎_elim (λ e. inl (owning w h j u at_j ∙ e)) (λ e. inr (winning w h j u at_j ∙ e)) a)
    (⊎_elim (λ e. inl (owning w h k v at_k ∙ e)) (λ e. inr (winning w h k v at_k ∙ e)) b)

mark_is : (m : Mutex) → NamesBelow thread_limit m → mutex_word m ≡ 2147483648 → (h : ℕ) × (m ≡ seized h)
mark_is unowned small e = absurd (omega arith)
mark_is (seized h) small e = (h, refl)
mark_is (owned h false) small e = absurd (omega arith)
mark_is (owned h true) small e = absurd (omega arith)
mark_is (offered h false) small e = absurd (omega arith)
mark_is (offered h true) small e = absurd (omega arith)

-- the mark is alone in the word just where a seat has won the mutex
pub mark_alone : (w : MutexWorld) → IsMutexWorld w → (w.word ≡ 2147483648) ↔ ((k : ℕ) × (v : MutexView) × (get_elem? w.views k ≡ some v) × (wins v.held.role ≡ true))
mark_alone w h = (
  (λ e.
      let tie = h.history.tied in
      let s = mark_is h.state (names_within (length (map (λ (u : MutexView). u.held) w.views)) h.state tie.few tie.below) (sym tie.word ∙ e) in
      let below : s.0 < length (map (λ (u : MutexView). u.held) w.views) = subst (λ z. NamesBelow (length (map (λ (u : MutexView). u.held) w.views)) z) s.1 tie.below in
      let there = at_some w.views s.0 (let l = length-map w.views (λ (u : MutexView). u.held) in omega arith) in
      (s.0, there.0, there.1, sym (winning w h s.0 there.0 there.1) ∙ ap (λ z. is_seizing z s.0) s.1 ∙ eq-eqb s.0 s.0 refl)),
  (λ (k, v, at, won). h.history.tied.word ∙ ap mutex_word (winner_is h.state k (winning w h k v at ∙ won))),
)

-- the word has the owner's number
pub names_owner : (w : MutexWorld) → IsMutexWorld w → (k : ℕ) (v : MutexView) → get_elem? w.views k ≡ some v → v.held.role ≡ Owner → number_in w.word ≡ k + 1
names_owner w h k v at owner =
    let mine = owner_is h.state k (owning w h k v at ∙ ap owns owner) in
    ap number_in (shown w h k v at ∙ ap mutex_word mine.1) ∙ number_in-owned k mine.0 (near w h k v at)
