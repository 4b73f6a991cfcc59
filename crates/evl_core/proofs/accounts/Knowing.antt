-- All that the steps of a token owe and show, as contracts read the token.
use Rattle.std.proofs.Common.{◌≡◌, ◌≢◌, ◌<◌, eqb, ne_eqb, ℕ, zero, suc, Bool, true, false, if◌then◌else◌, List, [], ◌∷◌, Option, Some, None, refl, sym, ap, ◌∙◌, subst, slice_get}
use mathlib.Core.Option.{some-injective, some-ne-none}
use mathlib.Core.Logic.{dite}
use native.Mathlib.Decide.{ℕ_discrete}
use prog.Atomic.{either}
use Rattle.atomic_table.specs.Table.{Step, Allows}
use Rattle.evl_pipeline.specs.declared.plan.Plan.{Plan}
use Rattle.evl_kernel.specs.state.States.{Handler}
use Rattle.evl_kernel.specs.histories.Histories.{History}
use Rattle.evl_kernel.specs.state.KernelViews.{KernelView}
use Rattle.evl_mutex.specs.Mutexes.{is_open_to}
use Rattle.evl_kernel.specs.state.Callbacks.{AnswersByPlan}
use Rattle.evl_words.specs.Hands.{place}
use Rattle.evl_words.specs.MutexWorld.{MutexView, owns}
use Rattle.evl_words.specs.declared.mutex.place.MutexPlace.{MutexPlace}
use Rattle.evl_core.specs.declared.views.Account.{Account}
use Rattle.evl_core.specs.declared.views.CorePart.{CorePart}
use Rattle.evl_core.specs.declared.views.ThreadView.{ThreadView}
use Rattle.evl_core.specs.accounts.Accounts.{Fits, MadeBy, up_to_date, lost_one}
use Rattle.evl_core.specs.lock.Lock.{LockEntry, LockView, LosesTo, lock_entry, lock_of, lock_view}
use Rattle.evl_core.specs.declared.views.LockCall.TheVariants.{Take}
use Rattle.evl_core.specs.declared.views.LockReply.TheVariants.{Got, Lost}
use Rattle.evl_core.specs.rule.CoreRule.{MayGive, account_at, after_loss, core_part}
use Rattle.evl_core.specs.words.MutexTokens.{AreItsPlaces, KeepsPlaces, note_in, part_of}
use Rattle.evl_core.specs.words.Noted.{HasTaken, IsSettled, number_of}
use Rattle.evl_core.specs.rule.ThreadRule.{mutex_of, put_core}
use Rattle.evl_core.specs.worlds.CoreWorld.{CoreKind, IsCoreEvent, Slot, step_part, taken_from, takes, gives}
use Rattle.evl_core.specs.worlds.Events.{FailsToTake, Gives, KernelEvent, Takes, at_rest, in_hand}
use Rattle.evl_core.specs.accounts.Seats.{CoreMe, AccountsFit, view, Continues, account_of, resting}
use Rattle.evl_core.specs.rule.Known.{lock_in, ComesFrom, CoreHand, KernelMe, accounts_in, taken_in, first_of, past_of, room_of, seen, ceilings_of, mutex_count, KeptKnown, took_known, gave_known}
use Rattle.evl_core.proofs.lock.LockSteps.{loses_to}
use Rattle.evl_core.proofs.accounts.Taking.{Took, loaded}
use Rattle.evl_core.proofs.rule.TableTies.{takes_tied, gives_tied}

fit_one : (h : History) (b : Account) (xs : List Account) → xs ≡ b ∷ [] → Fits h b → AccountsFit h xs
fit_one h b xs one f = subst (AccountsFit h) (sym one) at
  where
    at : AccountsFit h (b ∷ [])
    at zero a e = subst (Fits h) (some-injective b a e) f
    at (suc k) a e = absurd (some-ne-none a (sym e))

abbrev pub Thread : Type 0 → Type 0
Thread C = ThreadView (KernelView C) MutexView

abbrev pub Slots : Type 0 → Type 0
Slots C = List (ℕ × Option (KernelView C))

module _ {C : Type 0} where
  -- a token of one account has one thread
  pub record IsOne (me : KernelMe C) (taken : Option History) (a : Account) (cs : Slots C) : Type 0 where
    pub number : ℕ
    pub thread : Thread C
    pub me_is : me ≡ (place number thread ∷ [], cs)
    pub taken_is : thread.core.taken ≡ taken
    pub account_is : account_at number thread.core ≡ a

  pub is_one : (hand : CoreHand C) (slots : Slots C) (taken : Option History) (a : Account) (cs : Slots C) → seen (hand, slots) ≡ (view taken (a ∷ []), cs) → IsOne (hand, slots) taken a cs
  is_one [] slots taken a cs e = let none = ap (λ (m : CoreMe (KernelView C)). m.0.accounts) e in absurd (cc)
  is_one (p ∷ []) slots taken a cs e = record {
    number = p.number;
    thread = p.view;
    me_is = ap (λ (m : CoreMe (KernelView C)). (p ∷ [], m.1)) e;
    taken_is = ap (λ (m : CoreMe (KernelView C)). m.0.taken) e;
    account_is = first_is (ap (λ (m : CoreMe (KernelView C)). m.0.accounts) e);
  }
    where
      first_is : account_at p.number p.view.core ∷ [] ≡ a ∷ [] → account_at p.number p.view.core ≡ a
      first_is e = cc
  is_one (p ∷ q ∷ ps) slots taken a cs e = let two = ap (λ (m : CoreMe (KernelView C)). m.0.accounts) e in absurd (cc)

  -- a token of the thread k is read so
  abbrev seen_at : ℕ → CorePart (KernelView C) × Slots C → CoreMe (KernelView C)
  seen_at k x = (view x.0.taken (account_at k x.0 ∷ []), x.1)

  abbrev seen_hand : Slots C → CoreHand C → CoreMe (KernelView C)
  seen_hand cs hand = (view (taken_in hand) (accounts_in hand), cs)

  pub takes_known : (first : KernelView C) (slots id : ℕ) (me : KernelMe C) (a : Account) → seen me ≡ resting a → (st : Step (Option (KernelView C))) → Allows (KeptKnown first) slots id me 0 (λ n. either (eqb n 0) 1 n) (took_known st me)
  takes_known first slots id me a rests st =
      let o = is_one me.0 me.1 None a [] rests in
      takes_tied past_of room_of ComesFrom first ceilings_of mutex_count slots id o.number o.thread me o.me_is o.taken_is st

  -- what a thread knows of the core is what its account says, what it has taken, and the kernel as it was made
  part_is : (k : ℕ) (c : CorePart (KernelView C)) (taken : Option History) (a : Account) (first : KernelView C) → c.taken ≡ taken → account_at k c ≡ a → c.first ≡ first → c ≡ core_part taken a.seen a.mine a.found a.lost first c.note c.lock
  part_is k c taken a first t s f = λ i. core_part (t i) (s i).seen (s i).mine (s i).found (s i).lost (f i) c.note c.lock

  event_as : (k k' : ℕ) (c c' : CorePart (KernelView C)) (kind : CoreKind (KernelView C)) (found found' : ℕ) (d d' : CorePart (KernelView C)) → k ≡ k' → c ≡ c' → found ≡ found' → d ≡ d' → KernelEvent k c kind found d → KernelEvent k' c' kind found' d'
  event_as k k' c c' kind found found' d d' e f g h event = subst (λ (z : (ℕ × CorePart (KernelView C)) × (ℕ × CorePart (KernelView C))). KernelEvent z.0.0 z.0.1 kind z.1.0 z.1.1) (λ i. ((e i, f i), (g i, h i))) event

  -- what the thread has seen of the lock after a take that found another word than 0
  lost_lock : (found : ℕ) (slot : Slot (KernelView C)) (log : List LockEntry) (k : ℕ) (c : CorePart (KernelView C)) → found ≢ 0 → (step_part past_of room_of ComesFrom found slot log k c takes).lock ≡ lock_view log (lock_entry k Take Lost) c.lock false
  lost_lock found slot log k c ne = ap (λ (b : Bool). lock_of (if b then taken_from past_of room_of ComesFrom slot (lock_view log (lock_entry k Take (if b then Got else Lost)) c.lock true) c else after_loss (lock_view log (lock_entry k Take (if b then Got else Lost)) c.lock false) c)) (ne_eqb found 0 ne)

  -- so it was lost to another thread
  lost_to : (k : ℕ) (c d : CorePart (KernelView C)) (found : ℕ) → c.taken ≡ None → found ≢ 0 → IsCoreEvent past_of room_of ComesFrom k c takes found d → LosesTo k c.lock d.lock
  lost_to k c d found none ne event =
      let w = event.world in
      let shows = event.shows in
      loses_to w.log w.word w.views k c event.stands.1 event.at (λ e. ne (sym shows ∙ e)) none d.lock (ap (λ (u : CorePart (KernelView C)). u.lock) event.after ∙ lost_lock found w.slot w.log k c ne)

  -- what a take shows
  pub took_seen : (st : Step (Option (KernelView C))) (found : ℕ) (me me' : KernelMe C) (a : Account) → seen me ≡ resting a → took_known st me found me'
      → (found ≡ 0 → Took past_of room_of (ComesFrom (first_of me.0)) (seen me) (seen me')) × (found ≢ 0 → seen me' ≡ resting (lost_one a)) × (first_of me'.0 ≡ first_of me.0)
      × (found ≡ 0 → Takes (first_of me.0) a (lock_in me.0) (account_of (seen me')) (lock_in me'.0)) × (found ≢ 0 → FailsToTake (first_of me.0) a (lock_in me.0) (account_of (seen me')) (lock_in me'.0))
  took_seen st found me me' a rests told =
      let o = is_one me.0 me.1 None a [] rests in
      let k = o.number in
      let v = o.thread in
      let hand = ap (λ (z : KernelMe C). z.0) o.me_is in
      let t = told k v hand in
      let was : seen me ≡ seen_at k (v.core, me.1) = ap (seen_hand me.1) hand in
      let now : seen me' ≡ seen_at k (t.0.core, me'.1) = ap (seen_hand me'.1) t.1 in
      let before : first_of me.0 ≡ v.core.first = ap first_of hand in
      let after : first_of me'.0 ≡ t.0.core.first = ap first_of t.1 in
      let stays : t.0.core.first ≡ v.core.first = dite (ℕ_discrete found 0)
      (λ (e : found ≡ 0). ap (λ (x : CorePart (KernelView C) × Slots C). x.0.first) (t.2.0.0.0 e).2)
      (λ (ne : found ≢ 0). ap (λ (x : CorePart (KernelView C) × Slots C). x.0.first) (t.2.0.0.1 ne).1) in
      let lock : lock_in me.0 ≡ v.core.lock = ap lock_in hand in
      let lock' : lock_in me'.0 ≡ t.0.core.lock = ap lock_in t.1 in
      let one : KernelEvent k v.core takes found t.0.core = record { before = v; after = t.0; was = refl; is = refl; event = t.2.2 } in
      let number : k ≡ a.thread = ap (λ (x : Account). x.thread) o.account_is in
      let from : v.core ≡ at_rest (first_of me.0) a v.core.note v.core.lock = part_is k v.core None a (first_of me.0) o.taken_is o.account_is (sym before) in
      let account : account_at k t.0.core ≡ account_of (seen me') = sym (ap account_of now) in
      let lost : found ≢ 0 → seen me' ≡ resting (lost_one a) = λ ne. now ∙ (ap (seen_at k) (t.2.0.0.1 ne).1 ∙ lost_seen o (t.2.0.0.1 ne).0) in (
        (λ e.
            let q = t.2.0.0.0 e in (
              q.0,
              now ∙ (ap (seen_at k) q.2 ∙ ap (λ (m : CoreMe (KernelView C)). taken_at q.0 m) (sym was)),
              q.3,
              q.4,
              fit_one (past_of q.0) (account_at k v.core) (seen me).0.accounts (ap (λ (m : CoreMe (KernelView C)). m.0.accounts) was) q.5,
              subst (λ (first : KernelView C). ComesFrom first q.0) (sym before) q.6,
            )),
        lost,
        after ∙ (stays ∙ sym before),
        (λ e.
            let q = t.2.0.0.0 e in
            let taken : t.0.core.taken ≡ Some (account_of (seen me')).seen = ap (λ (x : CorePart (KernelView C) × Slots C). x.0.taken) q.2 ∙ ap (λ (h : History). Some h) (sym (ap (λ (x : CorePart (KernelView C) × Slots C). x.0.seen) q.2) ∙ ap (λ (x : Account). x.seen) account) in
            subst (λ (z : LockView × LockView). Takes (first_of me.0) a z.0 (account_of (seen me')) z.1) (λ i. (sym lock i, sym lock' i)) (
              v.core.note,
              t.0.core.note,
              event_as k a.thread v.core (at_rest (first_of me.0) a v.core.note v.core.lock) takes found 0 t.0.core (in_hand (first_of me.0) (account_of (seen me')) t.0.core.note t.0.core.lock) number from e
                  (part_is k t.0.core (Some (account_of (seen me')).seen) (account_of (seen me')) (first_of me.0) taken account (stays ∙ sym before)) one,
            )),
        (λ ne.
            let taken : t.0.core.taken ≡ None = ap (λ (x : CorePart (KernelView C) × Slots C). x.0.taken) (t.2.0.0.1 ne).1 ∙ o.taken_is in
            subst (λ (z : LockView × LockView). FailsToTake (first_of me.0) a z.0 (account_of (seen me')) z.1) (λ i. (sym lock i, sym lock' i)) (
              ap account_of (lost ne),
              found,
              ne,
              v.core.note,
              t.0.core.note,
              subst (λ (i : ℕ). LosesTo i v.core.lock t.0.core.lock) number (lost_to k v.core t.0.core found o.taken_is ne t.2.0.0.2),
              event_as k a.thread v.core (at_rest (first_of me.0) a v.core.note v.core.lock) takes found found t.0.core (at_rest (first_of me.0) (account_of (seen me')) t.0.core.note t.0.core.lock) number from refl
                  (part_is k t.0.core None (account_of (seen me')) (first_of me.0) taken account (stays ∙ sym before)) one,
            )),
      )
    where
      taken_at : KernelView C → CoreMe (KernelView C) → CoreMe (KernelView C)
      taken_at y m = (Rattle.evl_core.specs.accounts.Seats.after_take (past_of y) (room_of y) m.0, (0, Some y) ∷ [])

      -- a thread that was at rest has lost one take more, and knows nothing else
      lost_seen : (o : IsOne me None a []) (lock : LockView) → seen_at o.number (after_loss lock o.thread.core, me.1) ≡ resting (lost_one a)
      lost_seen o lock = λ i. (view (o.taken_is i) (lost_one (o.account_is i) ∷ []), (o.me_is i).1)

  pub gives_known : (first : KernelView C) (slots id : ℕ) (me : KernelMe C) (a : Account) (k : KernelView C) → seen me ≡ loaded past_of room_of a k → ComesFrom (first_of me.0) k → Continues a k.history → IsSettled me.0 k.history.state → (st : Step (Option (KernelView C)))
      → Allows (KeptKnown first) slots id me 0 (λ _. 0) (λ _. gave_known st me 0)
  gives_known first slots id me a k is comes c settled st =
      let o = is_one me.0 me.1 (Some a.seen) a ((0, Some k) ∷ []) is in
      let may : MayGive o.number o.thread.core k.history = record {
        before = a.seen;
        added = c.added;
        taken = o.taken_is;
        longer = c.longer;
        own = subst (λ t. MadeBy t c.added) (sym (ap (λ (x : Account). x.thread) o.account_is)) c.own;
      } in
      gives_tied past_of room_of ComesFrom first ceilings_of mutex_count slots id o.number o.thread k a.seen me o.me_is o.taken_is (subst (λ (z : KernelMe C). IsSettled z.0 k.history.state) o.me_is settled a.seen o.taken_is) may
      (subst (λ (z : KernelMe C). ComesFrom (first_of z.0) k) o.me_is comes) st

  -- what a give shows
  pub gave_seen : (st : Step (Option (KernelView C))) (found : ℕ) (me me' : KernelMe C) (a : Account) (k : KernelView C) → seen me ≡ loaded past_of room_of a k → gave_known st me found me'
      → (seen me' ≡ resting (up_to_date k.history a)) × (first_of me'.0 ≡ first_of me.0) × Gives (first_of me.0) a (lock_in me.0) k (account_of (seen me')) (lock_in me'.0)
  gave_seen st found me me' a k is told =
      let o = is_one me.0 me.1 (Some a.seen) a ((0, Some k) ∷ []) is in
      let hand = ap (λ (z : KernelMe C). z.0) o.me_is in
      let t = told o.number o.thread hand in
      let gave = t.2.0 k (ap (λ (z : KernelMe C). z.1) o.me_is) in
      let e = t.2.2 k (ap (λ (z : KernelMe C). z.1) o.me_is) in
      let one : KernelEvent o.number o.thread.core (gives k) e.0 t.0.core = record { before = o.thread; after = t.0; was = refl; is = refl; event = e.1 } in
      let now : seen me' ≡ seen_at o.number (t.0.core, me'.1) = ap (seen_hand me'.1) t.1 in
      let before : first_of me.0 ≡ o.thread.core.first = ap first_of hand in
      let stays : t.0.core.first ≡ first_of me.0 = ap (λ (x : CorePart (KernelView C) × Slots C). x.0.first) gave.1 ∙ sym before in (
        now ∙ (ap (seen_at o.number) gave.1 ∙ ap (λ (x : Account). resting (up_to_date k.history x)) o.account_is),
        ap first_of t.1 ∙ stays,
        subst (λ (z : LockView × LockView). Gives (first_of me.0) a z.0 k (account_of (seen me')) z.1) (λ i. (sym (ap lock_in hand) i, sym (ap lock_in t.1) i)) (
          e.0,
          o.thread.core.note,
          t.0.core.note,
          event_as o.number a.thread o.thread.core (in_hand (first_of me.0) a o.thread.core.note o.thread.core.lock) (gives k) e.0 e.0 t.0.core (at_rest (first_of me.0) (account_of (seen me')) t.0.core.note t.0.core.lock) (ap (λ (x : Account). x.thread) o.account_is)
              (part_is o.number o.thread.core (Some a.seen) a (first_of me.0) o.taken_is o.account_is (sym before)) refl
              (part_is o.number t.0.core None (account_of (seen me')) (first_of me.0) (ap (λ (x : CorePart (KernelView C) × Slots C). x.0.taken) gave.1) (sym (ap account_of now)) stays) one,
        ),
      )

  abbrev number_in : CoreHand C → ℕ
  number_in [] = 0
  number_in (p ∷ ps) = p.number

  -- what a step on the lock leaves of a token: what it knows of each mutex, and its thread's places
  keeps_places : (k : ℕ) (v w : Thread C) (hand hand' : CoreHand C) → hand ≡ place k v ∷ [] → hand' ≡ place k w ∷ [] → w ≡ put_core v w.core → KeepsPlaces hand hand'
  keeps_places k v w hand hand' one one' is = record { parts = parts; its = its }
    where
      parts : (i : ℕ) → part_of hand' i ≡ part_of hand i
      parts i = ap (λ (h : CoreHand C). part_of h i) one' ∙ ap (mutex_of i) is ∙ sym (ap (λ (h : CoreHand C). part_of h i) one)

      its : (places : List MutexPlace) → AreItsPlaces hand places → AreItsPlaces hand' places
      its places old =
          let number : old.number ≡ k = ap number_in (sym old.one ∙ one) in
          record {
            number = k;
            thread = w;
            one = one';
            placed = old.placed;
            numbers = λ i p there. old.numbers i p there ∙ number;
            owners = λ i p there. ap (λ (x : MutexView). owns x.held.role) (sym (ap (λ (h : CoreHand C). part_of h i) one') ∙ parts i ∙ ap (λ (h : CoreHand C). part_of h i) old.one) ∙ old.owners i p there;
          }

  pub took_places : (st : Step (Option (KernelView C))) (found : ℕ) (me me' : KernelMe C) (a : Account) → seen me ≡ resting a → took_known st me found me' → KeepsPlaces me.0 me'.0
  took_places st found me me' a rests told =
      let o = is_one me.0 me.1 None a [] rests in
      let hand = ap (λ (z : KernelMe C). z.0) o.me_is in
      let t = told o.number o.thread hand in
      keeps_places o.number o.thread t.0 me.0 me'.0 hand t.1 t.2.0.1

  -- a take that found a kernel has it in the slot, and has made no step on a word yet
  pub took_holds : (st : Step (Option (KernelView C))) (found : ℕ) (me me' : KernelMe C) (a : Account) → seen me ≡ resting a → took_known st me found me' → found ≡ 0 → (y : KernelView C) × (me'.1 ≡ (0, Some y) ∷ []) × HasTaken a.thread y.history me'.0
  took_holds st found me me' a rests told free =
      let o = is_one me.0 me.1 None a [] rests in
      let t = told o.number o.thread (ap (λ (z : KernelMe C). z.0) o.me_is) in
      let q = t.2.0.0.0 free in
      let number : o.number ≡ a.thread = ap (λ (x : Account). x.thread) o.account_is in
      let taken : t.0.core.taken ≡ Some (past_of q.0) = ap (λ (x : CorePart (KernelView C) × Slots C). x.0.taken) q.2 in
      let note : t.0.core.note ≡ None = ap (λ (x : CorePart (KernelView C) × Slots C). x.0.note) q.2 in (
        q.0,
        ap (λ (x : CorePart (KernelView C) × Slots C). x.1) q.2,
        record {
          number = ap number_of t.1 ∙ number;
          taken = ap taken_in t.1 ∙ taken;
          fresh = ap note_in t.1 ∙ note;
          owned = λ i less owner m at. subst (λ n. is_open_to n m ≡ true) number
              (t.2.1 (past_of q.0) taken note i (subst (λ (hand : CoreHand C). i < mutex_count (first_of hand)) t.1 less) (subst (λ (hand : CoreHand C). owns (part_of hand i).held.role ≡ true) t.1 owner) m at);
        },
      )

  pub gave_places : (st : Step (Option (KernelView C))) (found : ℕ) (me me' : KernelMe C) (a : Account) (k : KernelView C) → seen me ≡ loaded past_of room_of a k → gave_known st me found me' → KeepsPlaces me.0 me'.0
  gave_places st found me me' a k is told =
      let o = is_one me.0 me.1 (Some a.seen) a ((0, Some k) ∷ []) is in
      let hand = ap (λ (z : KernelMe C). z.0) o.me_is in
      let t = told o.number o.thread hand in
      keeps_places o.number o.thread t.0 me.0 me'.0 hand t.1 t.2.1

  abbrev pub hand_in_me : KernelMe C → CoreHand C
  hand_in_me m = m.0

  abbrev pub first_in_me : KernelMe C → KernelView C
  first_in_me m = first_of m.0

  pub comes_on : (a b c : KernelView C) → ComesFrom a b → ComesFrom b c → ComesFrom a c
  comes_on a b c f g = record {
    board = g.board ∙ f.board;
    bank = g.bank ∙ f.bank;
    brings = λ number callback stands. f.brings number callback (g.brings number callback stands);
    handlers_are = g.handlers_are ∙ f.handlers_are;
    limit = g.limit ∙ f.limit;
  }

  -- the callbacks of a kernel declare and answer what is said of their places, since those of the kernel as it was made do
  pub answers_still : (declared : C → ℕ) (plan : C → Plan) (first k : KernelView C) → ComesFrom first k → AnswersByPlan declared plan first.callbacks → AnswersByPlan declared plan k.callbacks
  answers_still declared plan first k from answers number callback stands =
      ap (λ (hs : List Handler). slice_get hs number) from.handlers_are ∙ answers number callback (from.brings number callback stands)
