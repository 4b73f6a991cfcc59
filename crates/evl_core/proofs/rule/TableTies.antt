-- The steps on the one table, with the ties: what each owes, and what it shows.
use Rattle.std.proofs.Common.{◌≡◌, ⊎_elim, eqb, ℕ, ◌+◌, ◌-◌, ◌<◌, Bool, true, false, List, [], ◌∷◌, length, map, set, get_or, Option, Some, None, refl, sym, ap, ◌∙◌, subst, arith}
use Rattle.std.proofs.lemmas.Option.{same_Some}
use mathlib.Core.Option.{some, none}
use lib.ListN.{get_elem?}
use prog.Atomic.{either}
use Rattle.atomic_table.specs.Table.{State, Me, Step, Allows, gives, keeps}
use Rattle.atomic_table.proofs.Lists.{at_map, set_here}
use Rattle.evl_kernel.specs.histories.Histories.{History, IsLegal}
use Rattle.evl_words.specs.Hands.{Hand, Told, Turns, place}
use Rattle.evl_words.specs.Parts.{Tells}
use Rattle.evl_words.specs.MutexWorld.{MutexView, MutexKind, MutexDoes, tries, unlocks, step_may, step_word, owns}
use Rattle.evl_words.specs.declared.mutex.MutexRole.{MutexRole}
use Rattle.evl_words.specs.declared.mutex.MutexRole.TheVariants.{Bystander, Winner, Waiter, Owner}
use Rattle.evl_words.proofs.Sequences.{at_below}
use Rattle.evl_words.proofs.Dealing.{allows_of}
use Rattle.evl_words.proofs.MutexSteps.{names_owner}
use Rattle.evl_core.specs.declared.views.CorePart.{CorePart}
use Rattle.evl_core.specs.declared.views.LockCall.TheVariants.{Take}
use Rattle.evl_core.specs.declared.views.LockReply.TheVariants.{Got, Lost}
use Rattle.evl_core.specs.declared.views.ThreadView.{ThreadView}
use Rattle.evl_core.specs.accounts.Accounts.{Fits, HasNoStranger}
use Rattle.evl_core.specs.lock.Lock.{LockView, give_entry, lock_entry, lock_view}
use Rattle.evl_core.specs.rule.CoreRule.{CoreKept, Homes, IsAbout, IsFree, IsTaken, MayGive, account_at, after_give, after_loss, after_take, noting}
use Rattle.evl_core.specs.rule.CoreTells.{CoreMe, took, gave}
use Rattle.evl_core.specs.rule.ThreadRule.{ThreadRule, MachineRule, core_of, put_core, mutex_of, put_mutex}
use Rattle.evl_core.specs.rule.Ties.{AreTied, Settled, StandsNoted, mutex_tie}
use Rattle.evl_core.specs.rule.TieTells.{EventOf, OwnsAsRecorded, on_mutex, on_noted, with_given, with_owned}
use Rattle.evl_core.specs.worlds.CoreWorld as kind
use Rattle.evl_core.specs.worlds.CoreWorld.{IsCoreEvent, step_part, step_slot, takes}
use Rattle.evl_core.specs.worlds.OneWorld.{HasFor, IsOneEvent, OneWorld, is_unlocking, needs_kernel, on_lock, on_word, one_after, one_may, view_after}
use Rattle.evl_core.proofs.rule.CoreSteps.{only_slot}
use Rattle.evl_core.proofs.ties.TieRecords.{owner_finds}
use Rattle.evl_core.proofs.worlds.OneTurns.{core_event, does_of, event_of, its_event, knows_first, match_no, match_yes, shape_of, stood_of, word_turns}
use Rattle.evl_core.proofs.worlds.OneWorldLaws.{one_keeps}
use Rattle.evl_core.proofs.worlds.RuleWorld.{WorldOf, ruled, world_of}

owner_role : (role : MutexRole) → owns role ≡ true → role ≡ Owner
owner_role Owner e = refl
owner_role Bystander e = absurd (cc)
owner_role Winner e = absurd (cc)
owner_role Waiter e = absurd (cc)

module _ {S B : Type 0} (past : S → History) (room : S → ℕ) (comes : B → S → Type 0) (first : B) (ceilings_of : B → ℕ → Bool) (count_of : B → ℕ) where
  abbrev pub ceilings : ℕ → Bool
  ceilings = ceilings_of first

  abbrev pub m : ℕ
  m = count_of first

  abbrev pub OneTable : State (Option S) (Hand (ThreadView B MutexView)) → Type 0
  OneTable = MachineRule past comes (mutex_tie past ceilings) first m

  abbrev pub Seat : Type 0
  Seat = Me (Option S) (Hand (ThreadView B MutexView))

  -- the thread that has the kernel owns no mutex for which another owner is recorded
  owned_as : (k : ℕ) (words : List ℕ) (homes : Homes S) (views : List (ThreadView B MutexView)) (w : ThreadView B MutexView) → ThreadRule past comes (mutex_tie past ceilings) first m words homes views → get_elem? views k ≡ some w
      → OwnsAsRecorded count_of k w
  owned_as k words homes views w kept at h has fresh i inside owner r here =
      let long = kept.long in
      let within : i < m = subst (λ (b : B). i < count_of b) (kept.locked.1.knows k (core_of w) (at_map core_of views k w at)) inside in
      let lt : 1 + i < length words = omega arith in
      let tied = kept.ties i lt in
      let stands = tied.taken k (core_of w) h (at_map core_of views k w at) has in
      let recorded : AreTied ceilings h.state i (get_or words (1 + i) 0) = subst (λ (o : Option _). StandsNoted ceilings h.state i o (get_or words (1 + i) 0)) fresh stands in
      let p = kept.parts i lt in
      let named = names_owner (record { word = get_or words (1 + i) 0; log = p.0; views = map (mutex_of i) views }) p.1 k (mutex_of i w) (at_map (mutex_of i) views k w at) (owner_role (mutex_of i w).held.role owner) in
      owner_finds ceilings i h.state r (get_or words (1 + i) 0) k named recorded here

  abbrev Rule : List ℕ → Homes S → List (ThreadView B MutexView) → Type 0
  Rule = ThreadRule past comes (mutex_tie past ceilings) first m

  -- a take
  takes_turns : (slots k : ℕ) (v : ThreadView B MutexView) → v.core.taken ≡ None → (st : Step (Option S))
      → Turns Rule slots k (v, []) 0 (λ n. either (eqb n 0) 1 n) (with_owned past room comes ceilings_of count_of (took past room comes) st k (v, []))
  takes_turns slots k v rests st words homes views kept len at below = ⊎_elim
      (λ (f : IsFree past comes first r.history w.word (w.slot ∷ []) (map core_of w.views)).
      let y = f.kernel in
      let slot : w.slot ≡ some (Some y) = only_slot w.slot (some (Some y)) f.slot_is in
      let known : LockView = lock_view w.log (lock_entry k Take Got) v.core.lock true in
      let now : core_of u ≡ after_take (past y) (room y) known v.core = λ j. step_part past room comes (f.word_is j) (slot j) w.log k v.core takes in
      let homes_now : step_slot past room comes w.word w.slot takes ∷ [] ≡ set homes 0 none = ap (λ n. step_slot past room comes n w.slot takes ∷ []) f.word_is ∙ sym (ap (λ hs. set hs 0 none) o.slot_is) in
      let rule : Rule (set words 0 (either (eqb n 0) 1 n)) (set homes 0 none) (set views k u) = subst (λ (z : (List ℕ × Homes S) × List (ThreadView B MutexView)). Rule z.0.0 z.0.1 z.1) (λ j. ((words_now j, homes_now j), set (o.views_are j) k u)) next in (
        u,
        Rattle.atomic_table.specs.Table.takes 0 (Some y),
        ap (λ (hs : Homes S). get_elem? hs 0) (o.slot_is ∙ f.slot_is),
        rule,
        (
          (
            (
              (λ _. (
                y,
                known,
                ap (λ (c : CorePart B). (c, (0, Some y) ∷ [])) now,
                subst IsLegal (sym f.past_is) r.legal,
                subst HasNoStranger (sym f.past_is) r.strangers,
                subst (λ (h : History). Fits h (account_at k v.core)) (sym f.past_is) (r.fits k v.core core_at),
                subst (λ (b : B). comes b y) (sym knows) f.comes_from,
              )),
              (λ other. absurd (other (word ∙ f.word_is))),
              core_event past room comes ceilings_of count_of first k v takes n u knows event,
            ),
            refl,
          ),
          owned_as k (set words 0 (either (eqb n 0) 1 n)) (set homes 0 none) (set views k u) u rule (set_here views k u (at_below views k v at)),
          event_of past room comes ceilings_of count_of first k v (on_lock takes) n u knows event,
        ),
      ))
      (λ (t : IsTaken r.history w.word (w.slot ∷ []) (map core_of w.views)).
      let known : LockView = lock_view w.log (lock_entry k Take Lost) v.core.lock false in
      let now : core_of u ≡ after_loss known v.core = λ j. step_part past room comes (t.word_is j) w.slot w.log k v.core takes in
      let homes_now : step_slot past room comes w.word w.slot takes ∷ [] ≡ homes = ap (λ n. step_slot past room comes n w.slot takes ∷ []) t.word_is ∙ sym o.slot_is in
      let rule : Rule (set words 0 (either (eqb n 0) 1 n)) homes (set views k u) = subst (λ (z : (List ℕ × Homes S) × List (ThreadView B MutexView)). Rule z.0.0 z.0.1 z.1) (λ j. ((words_now j, homes_now j), set (o.views_are j) k u)) next in (
        u,
        keeps,
        tt,
        rule,
        (
          (
            (
              (λ (zero_found : n ≡ 0). absurd (let one = t.word_is in omega (arith, one, word, zero_found))),
              (λ _. (known, ap (λ (c : CorePart B). (c, [])) now)),
              core_event past room comes ceilings_of count_of first k v takes n u knows event,
            ),
            refl,
          ),
          owned_as k (set words 0 (either (eqb n 0) 1 n)) homes (set views k u) u rule (set_here views k u (at_below views k v at)),
          event_of past room comes ceilings_of count_of first k v (on_lock takes) n u knows event,
        ),
      ))
      r.who
    where
      o : WorldOf past room comes first ceilings m words homes views
      o = world_of past room comes first ceilings m words homes views kept

      w : OneWorld S B
      w = o.world

      n : ℕ
      n = get_or words 0 0

      r : CoreKept past comes first o.world.word (o.world.slot ∷ []) (map core_of o.world.views)
      r = o.stands.locked.0

      at' : get_elem? o.world.views k ≡ some v
      at' = ap (λ vs. get_elem? vs k) o.views_are ∙ at

      core_at : get_elem? (map core_of o.world.views) k ≡ some v.core
      core_at = at_map core_of o.world.views k v at'

      u : ThreadView B MutexView
      u = view_after past room comes ceilings m o.world k v (on_lock takes)

      word : get_or words 0 0 ≡ o.world.word
      word = ap (λ l. get_or l 0 0) o.words_are

      knows : v.core.first ≡ first
      knows = knows_first past room comes ceilings_of count_of first o.world o.stands k v at'

      event : IsOneEvent past room comes ceilings_of count_of first k v (on_lock takes) (get_or words 0 0) u
      event = its_event past room comes ceilings_of count_of first o.world o.stands k v at' (on_lock takes) (rests, tt) (get_or words 0 0) (sym word)

      next : Rule (either (eqb o.world.word 0) 1 o.world.word ∷ o.world.mutexes) (step_slot past room comes o.world.word o.world.slot takes ∷ []) (set o.world.views k u)
      next = ruled past room comes first ceilings m (one_after past room comes ceilings m o.world k v (on_lock takes)) (one_keeps past room comes first ceilings m o.world o.stands k v at' (on_lock takes) (rests, tt))

      words_now : either (eqb o.world.word 0) 1 o.world.word ∷ o.world.mutexes ≡ set words 0 (either (eqb (get_or words 0 0) 0) 1 (get_or words 0 0))
      words_now = sym (ap (λ l. set l 0 (either (eqb (get_or l 0 0) 0) 1 (get_or l 0 0))) o.words_are)

  pub takes_tied : (slots id k : ℕ) (v : ThreadView B MutexView) (me : Seat) → me ≡ (place k v ∷ [], []) → v.core.taken ≡ None → (st : Step (Option S))
      → Allows OneTable slots id me 0 (λ n. either (eqb n 0) 1 n) (Told (with_owned past room comes ceilings_of count_of (took past room comes)) st me)
  takes_tied slots id k v me one rests st =
      subst (λ (z : Seat). Allows OneTable slots id z 0 (λ n. either (eqb n 0) 1 n) (Told (with_owned past room comes ceilings_of count_of (took past room comes)) st z)) (sym one)
      (allows_of Rule slots id k v (place k v ∷ [], []) refl 0 (λ n. either (eqb n 0) 1 n) st (with_owned past room comes ceilings_of count_of (took past room comes)) (takes_turns slots k v rests st))

  -- a give
  gives_turns : (slots k : ℕ) (v : ThreadView B MutexView) (y : S) (before : History) → v.core.taken ≡ Some before → Settled (ceilings_of v.core.first) v.core before (past y).state
      → MayGive k v.core (past y) → comes v.core.first y → (st : Step (Option S))
      → Turns Rule slots k (v, (0, Some y) ∷ []) 0 (λ _. 0) (with_given past room comes ceilings_of count_of (gave past room comes) st k (v, (0, Some y) ∷ []))
  gives_turns slots k v y before has settled may from st words homes views kept len at below =
      let words_now : 0 ∷ o.world.mutexes ≡ set words 0 0 = sym (ap (λ l. set l 0 0) o.words_are) in
      let homes_now : some (Some y) ∷ [] ≡ set homes 0 (some (Some y)) = sym (ap (λ hs. set hs 0 (some (Some y))) o.slot_is) in (
        u,
        gives,
        tt,
        subst (λ (z : (List ℕ × Homes S) × List (ThreadView B MutexView)). Rule z.0.0 z.0.1 z.1) (λ j. ((words_now j, homes_now j), set (o.views_are j) k u)) next,
        (
          (λ z e. subst (λ (q : S). Back q) (same_Some y z (ap first_slot e)) (known, refl, n, core_event past room comes ceilings_of count_of first k v (kind.gives y) n u knows event)),
          refl,
          (λ z e. subst (λ (q : S). (other : ℕ) × EventOf past room comes ceilings_of count_of k v (on_lock (kind.gives q)) other u) (same_Some y z (ap first_slot e)) (n, event_of past room comes ceilings_of count_of first k v (on_lock (kind.gives y)) n u knows event)),
        ),
      )
    where
      o : WorldOf past room comes first ceilings m words homes views
      o = world_of past room comes first ceilings m words homes views kept

      n : ℕ
      n = get_or words 0 0

      at' : get_elem? o.world.views k ≡ some v
      at' = ap (λ vs. get_elem? vs k) o.views_are ∙ at

      u : ThreadView B MutexView
      u = view_after past room comes ceilings m o.world k v (on_lock (kind.gives y))

      known : LockView
      known = lock_view o.world.log (give_entry k) v.core.lock false

      knows : v.core.first ≡ first
      knows = knows_first past room comes ceilings_of count_of first o.world o.stands k v at'

      owes : one_may past room comes ceilings m k v (on_lock (kind.gives y))
      owes = ((may, from), λ h has'. subst (λ (x : B × History). Settled (ceilings_of x.0) v.core x.1 (past y).state) (λ j. (knows j, same_Some before h (sym has ∙ has') j)) settled)

      event : IsOneEvent past room comes ceilings_of count_of first k v (on_lock (kind.gives y)) (get_or words 0 0) u
      event = its_event past room comes ceilings_of count_of first o.world o.stands k v at' (on_lock (kind.gives y)) owes (get_or words 0 0) (sym (ap (λ l. get_or l 0 0) o.words_are))

      next : Rule (0 ∷ o.world.mutexes) (some (Some y) ∷ []) (set o.world.views k u)
      next = ruled past room comes first ceilings m (one_after past room comes ceilings m o.world k v (on_lock (kind.gives y))) (one_keeps past room comes first ceilings m o.world o.stands k v at' (on_lock (kind.gives y)) owes)

      Back : S → Type 0
      Back q = (given : LockView) × (◌≡◌ {A = CoreMe S B} (after_give (past y) k known v.core, []) (after_give (past q) k given v.core, [])) × (found : ℕ) × IsCoreEvent past room comes k v.core (kind.gives q) found (after_give (past y) k known v.core)

      first_slot : List (ℕ × Option S) → Option S
      first_slot [] = None
      first_slot (x ∷ xs) = x.1

  pub gives_tied : (slots id k : ℕ) (v : ThreadView B MutexView) (y : S) (before : History) (me : Seat) → me ≡ (place k v ∷ [], (0, Some y) ∷ []) → v.core.taken ≡ Some before → Settled (ceilings_of v.core.first) v.core before (past y).state
      → MayGive k v.core (past y) → comes v.core.first y → (st : Step (Option S))
      → Allows OneTable slots id me 0 (λ _. 0) (λ _. Told (with_given past room comes ceilings_of count_of (gave past room comes)) st me 0)
  gives_tied slots id k v y before me one has settled may from st =
      subst (λ (z : Seat). Allows OneTable slots id z 0 (λ _. 0) (λ _. Told (with_given past room comes ceilings_of count_of (gave past room comes)) st z 0)) (sym one)
      (allows_of Rule slots id k v (place k v ∷ [], (0, Some y) ∷ []) refl 0 (λ _. 0) st (with_given past room comes ceilings_of count_of (gave past room comes)) (gives_turns slots k v y before has settled may from st))

  -- a step on a mutex's word by anybody
  plain_tied : (slots id k : ℕ) (v : ThreadView B MutexView) (me : Seat) → me.0 ≡ place k v ∷ [] → (i : ℕ) (kind : MutexKind) → one_may past room comes ceilings m k v (on_word i kind) → needs_kernel (ceilings i) kind ≡ false
      → (f : ℕ → ℕ) (st : Step (Option S)) → st.word ≡ 1 + i → (tells : Tells (Option S) MutexView) → ((n : ℕ) → step_word n k (mutex_of i v) kind ≡ f n)
      → ((found : ℕ) (u : MutexView) → MutexDoes k (mutex_of i v) kind found u → tells st k (mutex_of i v, me.1) found (u, me.1))
      → Allows OneTable slots id me (1 + i) f (Told (on_mutex past room comes ceilings_of count_of kind tells) st me)
  plain_tied slots id k v me one i kind may needs f st at_word tells same weaker =
      let e : i ≡ st.word - 1 = omega (arith, at_word) in
      let Says : ℕ → ℕ → Me (Option S) (ThreadView B MutexView) → Type 0 = λ j found w. tells st k (mutex_of j v, me.1) found (mutex_of j w.0, w.1) × (w.0 ≡ put_mutex j v (mutex_of j w.0)) × EventOf past room comes ceilings_of count_of k v (on_word j kind) found w.0 in
      allows_of Rule slots id k v me one (1 + i) f st (on_mutex past room comes ceilings_of count_of kind tells)
      (subst (λ j. Turns Rule slots k (v, me.1) (1 + i) f (Says j)) e
      (word_turns past room comes ceilings_of count_of first slots k v me.1 i kind may f same (Says i)
      (λ found u knows event. (
        weaker found (mutex_of i u) (does_of past room comes ceilings_of count_of first k v i kind found u event),
        shape_of past room comes ceilings_of count_of first k v i kind found u event false (f found) needs (same found),
        event_of past room comes ceilings_of count_of first k v (on_word i kind) found u knows event,
      ))))

  -- a try and an unlocking by anybody, of a mutex without a ceiling
  module _ (slots id k : ℕ) (v : ThreadView B MutexView) (me : Seat) (one : me.0 ≡ place k v ∷ []) (i : ℕ) (within : i < m) (free_of : ceilings i ≡ false) (f : ℕ → ℕ) (st : Step (Option S)) (at_word : st.word ≡ 1 + i) (tells : Tells (Option S) MutexView) where
    pub tries_tied : step_may k (mutex_of i v) tries → ((n : ℕ) → step_word n k (mutex_of i v) tries ≡ f n)
        → ((found : ℕ) (u : MutexView) → MutexDoes k (mutex_of i v) tries found u → tells st k (mutex_of i v, me.1) found (u, me.1))
        → Allows OneTable slots id me (1 + i) f (Told (on_mutex past room comes ceilings_of count_of tries tells) st me)
    tries_tied may same weaker = plain_tied slots id k v me one i tries (within, may, match_no (ceilings i) (HasFor i (core_of v)) (is_unlocking tries ≡ true → ceilings i ≡ false) free_of (λ _. free_of)) free_of f st at_word tells same weaker

    pub unlocks_tied : step_may k (mutex_of i v) unlocks → ((n : ℕ) → step_word n k (mutex_of i v) unlocks ≡ f n)
        → ((found : ℕ) (u : MutexView) → MutexDoes k (mutex_of i v) unlocks found u → tells st k (mutex_of i v, me.1) found (u, me.1))
        → Allows OneTable slots id me (1 + i) f (Told (on_mutex past room comes ceilings_of count_of unlocks tells) st me)
    unlocks_tied may same weaker = plain_tied slots id k v me one i unlocks (within, may, λ _. free_of) refl f st at_word tells same weaker

  -- Any step on a mutex's word that only the thread that has the kernel makes, and that has made no step on another word since its take
  pub marks_tied : (slots id k : ℕ) (v : ThreadView B MutexView) (me : Seat) → me.0 ≡ place k v ∷ [] → (h : History) → v.core.taken ≡ Some h → (i : ℕ) → i < m → IsAbout i v.core.note → (kind : MutexKind) → needs_kernel (ceilings i) kind ≡ true → step_may k (mutex_of i v) kind
      → (st : Step (Option S)) → st.word ≡ 1 + i → (f : Step (Option S) → ℕ → ℕ) → ((n : ℕ) → step_word n k (mutex_of i v) kind ≡ f st n) → (tells : Tells (Option S) MutexView)
      → ((found : ℕ) (u : MutexView) → MutexDoes k (mutex_of i v) kind found u → tells st k (mutex_of i v, me.1) found (u, me.1))
      → Allows OneTable slots id me (1 + i) (f st) (Told (on_noted past room comes ceilings_of count_of kind f tells) st me)
  marks_tied slots id k v me one h has i within about kind needs may st at_word f same tells weaker =
      let e : i ≡ st.word - 1 = omega (arith, at_word) in
      let Says : ℕ → ℕ → Me (Option S) (ThreadView B MutexView) → Type 0 = λ j found w. tells st k (mutex_of j v, me.1) found (mutex_of j w.0, w.1)
      × ((g : History) → v.core.taken ≡ Some g → StandsNoted (ceilings_of v.core.first) g.state j v.core.note found) × (w.0 ≡ put_core (put_mutex j v (mutex_of j w.0)) (noting j (f st found) v.core)) × EventOf past room comes ceilings_of count_of k v (on_word j kind) found w.0 in
      allows_of Rule slots id k v me one (1 + i) (f st) st (on_noted past room comes ceilings_of count_of kind f tells)
      (subst (λ j. Turns Rule slots k (v, me.1) (1 + i) (f st) (Says j)) e
      (word_turns past room comes ceilings_of count_of first slots k v me.1 i kind (within, may, match_yes (needs_kernel (ceilings i) kind) (HasFor i (core_of v)) (is_unlocking kind ≡ true → ceilings i ≡ false) needs (h, has, about)) (f st) same (Says i)
      (λ found u knows event. (
        weaker found (mutex_of i u) (does_of past room comes ceilings_of count_of first k v i kind found u event),
        (λ g took. subst (λ (b : B). StandsNoted (ceilings_of b) g.state i v.core.note found) (sym knows) (stood_of past room comes ceilings_of count_of first k v i kind found u event g took)),
        shape_of past room comes ceilings_of count_of first k v i kind found u event true (f st found) needs (same found),
        event_of past room comes ceilings_of count_of first k v (on_word i kind) found u knows event,
      ))))
