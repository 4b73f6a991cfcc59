-- A thread's token and places before and after a step on a mutex's word in the core's table.
use Rattle.std.proofs.Common.{◌≡◌, ◌≢◌, ℕ, zero, suc, ◌+◌, ◌-◌, ◌<◌, nat_lt, true, false, List, [], ◌∷◌, length, length-set, map, Option, Some, slice_get, slice_set, refl, sym, ap, ◌∙◌, subst, arith}
use Rattle.std.specs.Option.{option_map}
use Rattle.std.proofs.lemmas.Option.{none-some, same_Some, slice_get-map}
use Rattle.atomic_table.specs.Seated.{TableId}
use Rattle.atomic_table.specs.Table.{Allows, Step}
use Rattle.evl_kernel.specs.state.KernelViews.{KernelView}
use Rattle.evl_words.specs.declared.mutex.place.MutexPlace.{MutexPlace}
use Rattle.evl_words.specs.Hands.{place}
use Rattle.evl_words.specs.MutexCalls.{MutexSeatState}
use Rattle.evl_words.specs.declared.mutex.MutexHold.{MutexHold}
use Rattle.evl_words.specs.MutexRule.{tried, unlocked}
use Rattle.evl_words.specs.MutexWorld.{MutexView, MutexKind, MutexDoes, owns, step_may, step_word, tries, unlocks}
use Rattle.evl_words.proofs.MutexSeats.{tried_of, unlocked_of}
use Rattle.evl_words.specs.Parts.{Tells}
use Rattle.evl_words.proofs.Sequences.{map-set}
use Rattle.evl_core.specs.declared.views.Account.{Account}
use Rattle.evl_core.specs.declared.views.CorePart.{CorePart}
use Rattle.evl_core.specs.declared.views.ThreadView.{ThreadView}
use Rattle.evl_core.specs.words.AtSeats.{AtSeat}
use Rattle.evl_core.specs.rule.CoreRule.{IsAbout, account_at, noting}
use Rattle.evl_core.specs.rule.Known.{lock_in, ComesFrom, CoreHand, KernelMe, KeptKnown, accounts_in, ceilings_of, first_of, by_anybody, by_holder, mutex_count, past_of, room_of, taken_in, tried_known, unlocked_known}
use Rattle.evl_core.specs.words.Noted.{Found, Notes, number_of, MakesOne}
use Rattle.evl_core.specs.rule.Ties.{StandsNoted}
use Rattle.evl_core.specs.worlds.OneWorld.{needs_kernel, on_word}
use Rattle.evl_core.specs.rule.TieTells.{EventOf}
use Rattle.evl_core.specs.words.MutexPlaces.{Deepens}
use Rattle.evl_core.specs.words.Homes.{mutex_home}
use Rattle.evl_core.specs.words.MutexTokens.{AreItsPlaces, AreTheSame, HasKernelFor, IsAtTable, TellsTheSame, note_in, part_of, seat_at, seats_at}
use Rattle.evl_core.specs.accounts.Seats.{view}
use Rattle.evl_core.specs.rule.ThreadRule.{put_core, mutex_of, put_mutex}
use Rattle.evl_core.proofs.words.SeatLists.{each-set, map-kept, set-same}
use Rattle.evl_core.proofs.rule.TableTies.{marks_tied, tries_tied, unlocks_tied}
use Rattle.evl_core.proofs.rule.ThreadSteps.{parts_apart}

-- what all have alike but at one place, where it is known by itself, stays
each-but : {S : Type 0} (P : ℕ → S → Type 0) (xs : List S) (i : ℕ) (is : S) → ((k : ℕ) (s : S) → k ≢ i → slice_get xs k ≡ Some s → P k s) → P i is
    → (k : ℕ) (s : S) → slice_get (slice_set xs i is) k ≡ Some s → P k s
each-but P [] i is h p k s there = absurd (none-some s there)
each-but P (x ∷ xs) zero is h p zero s there = subst (P 0) (same_Some is s there) p
each-but P (x ∷ xs) zero is h p (suc k) s there = h (suc k) s (λ e. absurd (cc)) there
each-but P (x ∷ xs) (suc i) is h p zero s there = h zero s (λ e. absurd (cc)) there
each-but P (x ∷ xs) (suc i) is h p (suc k) s there = each-but (λ j. P (suc j)) xs i is (λ j s ne. h (suc j) s (λ e. ne (omega (arith, e)))) p k s there

map-same : {S B : Type 0} (f g : S → B) (xs : List S) → ((k : ℕ) (s : S) → slice_get xs k ≡ Some s → f s ≡ g s) → map f xs ≡ map g xs
map-same f g [] h = refl
map-same f g (x ∷ xs) h = λ i. h 0 x refl i ∷ map-same f g xs (λ k. h (suc k)) i

-- two maps that agree but at one place, where something else is written
map-but : {S B : Type 0} (f g : S → B) (xs : List S) (i : ℕ) (x : B) → ((k : ℕ) (s : S) → k ≢ i → slice_get xs k ≡ Some s → f s ≡ g s) → slice_set (map f xs) i x ≡ slice_set (map g xs) i x
map-but f g [] i x h = refl
map-but f g (y ∷ ys) zero x h = ap (λ zs. x ∷ zs) (map-same f g ys (λ k s. h (suc k) s (λ e. absurd (cc))))
map-but f g (y ∷ ys) (suc i) x h = λ j. h 0 y (λ e. absurd (cc)) refl j ∷ map-but f g ys i x (λ k s ne. h (suc k) s (λ e. ne (omega (arith, e)))) j

-- the seat made a step of this kind, and holds the mutex so often then
pub record Stepped (kind : MutexKind) (found : ℕ) (was is : MutexSeatState) (times : ℕ) : Type 0 where
  pub makes : MutexDoes was.number was.view kind found is.view
  pub depth : is.depth ≡ times

-- a step that leaves the places
abbrev pub same_place : (i : ℕ) (ps : List MutexPlace) (p : MutexPlace) → slice_get ps i ≡ Some p → Deepens i (λ d. d) ps ps
same_place i ps p there = record { was = p; is = p; there = there; changed = sym (set-same ps i p there); does = refl }

abbrev pub Thread : Type 0 → Type 0
Thread C = ThreadView (KernelView C) MutexView

module _ {C : Type 0} where
  -- the token after a step on the word of the mutex i: of the core it knows the same, but for its note
  pub record Moved (i k : ℕ) (v : Thread C) (kind : MutexKind) (found : ℕ) (me me' : KernelMe C) : Type 0 where
    pub now : Thread C
    pub one : me'.0 ≡ place k now ∷ []
    pub slots : me'.1 ≡ me.1
    pub does : MutexDoes k (mutex_of i v) kind found (mutex_of i now)
    pub others : (j : ℕ) → j ≢ i → mutex_of j now ≡ mutex_of j v
    pub account : account_at k now.core ≡ account_at k v.core
    pub taken : now.core.taken ≡ v.core.taken
    pub first : now.core.first ≡ v.core.first
    pub lock : now.core.lock ≡ v.core.lock

  moved_to : (i k : ℕ) (v : Thread C) (kind : MutexKind) (found : ℕ) (me me' : KernelMe C) (c : CorePart (KernelView C)) (w : Thread C) (j : ℕ) → j ≡ i → me'.0 ≡ place k w ∷ [] → w ≡ put_core (put_mutex j v (mutex_of j w)) c → account_at k c ≡ account_at k v.core → c.taken ≡ v.core.taken → c.first ≡ v.core.first → c.lock ≡ v.core.lock
      → me'.1 ≡ me.1 → MutexDoes k (mutex_of j v) kind found (mutex_of j w) → Moved i k v kind found me me'
  moved_to i k v kind found me me' c w j e one is account taken first lock slots does = record {
    now = w;
    one = one;
    slots = slots;
    does = subst (λ n. MutexDoes k (mutex_of n v) kind found (mutex_of n w)) e does;
    others = λ n ne. ap (mutex_of n) is ∙ parts_apart.part_else j n v (mutex_of j w) (λ same. ne (same ∙ e));
    account = ap (λ (x : Thread C). account_at k x.core) is ∙ account;
    taken = ap (λ (x : Thread C). x.core.taken) is ∙ taken;
    first = ap (λ (x : Thread C). x.core.first) is ∙ first;
    lock = ap (λ (x : Thread C). x.core.lock) is ∙ lock;
  }

  -- a step says that it is of this kind, and leaves the slots
  abbrev pub SaysSo : ℕ → MutexKind → Tells (Option (KernelView C)) MutexView → Type 0
  SaysSo k kind tells = (st : Step (Option (KernelView C))) (p q : MutexView) (cs ds : List (ℕ × Option (KernelView C))) (found : ℕ) → tells st k (p, cs) found (q, ds) → (ds ≡ cs) × MutexDoes k p kind found q

  module _ (i k : ℕ) (v : Thread C) (kind : MutexKind) (found : ℕ) (me me' : KernelMe C) (st : Step (Option (KernelView C))) (at : st.word ≡ 1 + i) (one : me.0 ≡ place k v ∷ []) (tells : Tells (Option (KernelView C)) MutexView) (says : SaysSo k kind tells) where
    -- by anybody
    pub moved : by_anybody kind tells st me found me' → Moved i k v kind found me me'
    moved told =
        let t = told k v one in
        let j = st.word - 1 in
        let d = says st (mutex_of j v) (mutex_of j t.0) me.1 me'.1 found t.2.0 in
        moved_to i k v kind found me me' v.core t.0 j (omega (arith, at)) t.1 t.2.1 refl refl refl refl d.0 d.1

    -- by the thread that has the kernel
    pub moved_held : (f : Step (Option (KernelView C)) → ℕ → ℕ) → by_holder kind f tells st me found me' → Moved i k v kind found me me'
    moved_held f told =
        let t = told k v one in
        let j = st.word - 1 in
        let d = says st (mutex_of j v) (mutex_of j t.0) me.1 me'.1 found t.2.0 in
        moved_to i k v kind found me me' (noting j (f st found) v.core) t.0 j (omega (arith, at)) t.1 t.2.2 refl refl refl refl d.0 d.1

    -- which is about this mutex then
    pub still_about : (f : Step (Option (KernelView C)) → ℕ → ℕ) → by_holder kind f tells st me found me' → HasKernelFor i me.0 → HasKernelFor i me'.0
    still_about f told (h, taken, about) =
        let t = told k v one in
        let j = st.word - 1 in
        let note : note_in me'.0 ≡ Some (record { mutex = j; left = f st found }) = ap note_in t.1 ∙ ap (λ (x : Thread C). x.core.note) t.2.2 in
        (h, ap taken_in t.1 ∙ ap (λ (x : Thread C). x.core.taken) t.2.2 ∙ sym (ap taken_in one) ∙ taken, subst (IsAbout i) (sym note) (omega (arith, at)))

    -- which is an event of the one world
    pub makes_one : by_anybody kind tells st me found me' → MakesOne (on_word i kind) me.0 me'.0
    makes_one told =
        let t = told k v one in
        let e : st.word - 1 ≡ i = omega (arith, at) in
        record { number = k; before = v; after = t.0; one = one; now = t.1; found = found; event = subst (λ n. EventOf past_of room_of ComesFrom ceilings_of mutex_count k v (on_word n kind) found t.0) e t.2.2 }

    -- and found it so
    pub notes : (f : Step (Option (KernelView C)) → ℕ → ℕ) → ((n : ℕ) → step_word n k (mutex_of i v) kind ≡ f st n) → by_holder kind f tells st me found me' → (so : Found) → so k found → Notes i kind so me.0 me'.0
    notes f same told so is =
        let t = told k v one in
        let j = st.word - 1 in
        let e : j ≡ i = omega (arith, at) in
        let d = says st (mutex_of j v) (mutex_of j t.0) me.1 me'.1 found t.2.0 in
        let number : number_of me.0 ≡ k = ap number_of one in
        let was : part_of me.0 i ≡ mutex_of i v = ap (λ (h : CoreHand C). part_of h i) one in
        let now : part_of me'.0 i ≡ mutex_of i t.0 = ap (λ (h : CoreHand C). part_of h i) t.1 in
        let left : f st found ≡ step_word found (number_of me.0) (part_of me.0 i) kind = sym (same found) ∙ (λ q. step_word found (sym number q) (sym was q) kind) in
        record {
          found = found;
          does = subst (λ (z : (ℕ × MutexView) × MutexView). MutexDoes z.0.0 z.0.1 kind found z.1) (λ q. ((sym number q, sym was q), sym now q)) (subst (λ n. MutexDoes k (mutex_of n v) kind found (mutex_of n t.0)) e d.1);
          event = record { number = k; before = v; after = t.0; one = one; now = t.1; found = found; event = subst (λ n. EventOf past_of room_of ComesFrom ceilings_of mutex_count k v (on_word n kind) found t.0) e t.2.3 };
          found_so = subst (λ n. so n found) (sym number) is;
          stood = λ h has. subst (λ (z : CoreHand C × ℕ). StandsNoted (ceilings_of (first_of z.0)) h.state z.1 (note_in z.0) found) (λ q. (sym one q, e q)) (t.2.1 h (sym (ap taken_in one) ∙ has));
          number = ap number_of t.1 ∙ sym number;
          taken = ap taken_in t.1 ∙ ap (λ (x : Thread C). x.core.taken) t.2.2 ∙ sym (ap taken_in one);
          first = ap first_of t.1 ∙ ap (λ (x : Thread C). x.core.first) t.2.2 ∙ sym (ap first_of one);
          note = ap note_in t.1 ∙ ap (λ (x : Thread C). x.core.note) t.2.2 ∙ (λ q. Some (record { mutex = e q; left = left q }));
        }

  module _ (i k : ℕ) (v : Thread C) (kind : MutexKind) (found : ℕ) (me me' : KernelMe C) (one : me.0 ≡ place k v ∷ []) (went : Moved i k v kind found me me') where
    pub tells_same : TellsTheSame me me'
    tells_same =
        let taken : taken_in me'.0 ≡ taken_in me.0 = ap taken_in went.one ∙ went.taken ∙ sym (ap taken_in one) in
        let accounts : accounts_in me'.0 ≡ accounts_in me.0 = ap accounts_in went.one ∙ ap (λ (a : Account). a ∷ []) went.account ∙ sym (ap accounts_in one) in
        record { core = λ j. (view (taken j) (accounts j), went.slots j); first = ap first_of went.one ∙ went.first ∙ sym (ap first_of one); lock = ap lock_in went.one ∙ went.lock ∙ sym (ap lock_in one) }

    part_was : (j : ℕ) → part_of me.0 j ≡ mutex_of j v
    part_was j = ap (λ (hand : CoreHand C). part_of hand j) one

    part_now : (j : ℕ) → part_of me'.0 j ≡ mutex_of j went.now
    part_now j = ap (λ (hand : CoreHand C). part_of hand j) went.one

    module _ (id : TableId) (ps ps' : List MutexPlace) (f : ℕ → ℕ) (placed : (j : ℕ) (p : MutexPlace) → slice_get ps j ≡ Some p → p.mutex.0 ≡ j) (at : Deepens i f ps ps') where
      is_mutex : at.is.mutex.0 ≡ i
      is_mutex = ap (λ (p : MutexPlace). p.mutex.0) at.does ∙ placed i at.was at.there

      -- the seat made the step, and holds the mutex as often as its place
      pub stepped : ((j : ℕ) (p : MutexPlace) → slice_get ps j ≡ Some p → p.number ≡ k) → Stepped kind found (seat_at id me.0 at.was) (seat_at id me'.0 at.is) (f at.was.depth)
      stepped numbers =
          let number : at.was.number ≡ k = numbers i at.was at.there in
          let was : part_of me.0 at.was.mutex.0 ≡ mutex_of i v = part_was at.was.mutex.0 ∙ ap (λ j. mutex_of j v) (placed i at.was at.there) in
          let now : part_of me'.0 at.is.mutex.0 ≡ mutex_of i went.now = part_now at.is.mutex.0 ∙ ap (λ j. mutex_of j went.now) is_mutex in
          record { makes = subst (λ (z : (ℕ × MutexView) × MutexView). MutexDoes z.0.0 z.0.1 kind found z.1) (λ j. ((sym number j, sym was j), sym now j)) went.does; depth = ap (λ (p : MutexPlace). p.depth) at.does }

      -- of all the seats that of the mutex i alone changes
      pub at_seat : (step : MutexSeatState → MutexSeatState → Type 0) → step (seat_at id me.0 at.was) (seat_at id me'.0 at.is) → AtSeat i (seats_at id me.0 ps) (seats_at id me'.0 ps') step
      at_seat step does = record {
        was = seat_at id me.0 at.was;
        is = seat_at id me'.0 at.is;
        there = slice_get-map (seat_at id me.0) ps i ∙ ap (option_map (seat_at id me.0)) at.there;
        changed = ap (seats_at id me'.0) at.changed ∙ map-set (seat_at id me'.0) ps i at.is ∙ map-but (seat_at id me'.0) (seat_at id me.0) ps i (seat_at id me'.0 at.is) alike;
        does = does;
      }
        where
          alike : (j : ℕ) (p : MutexPlace) → j ≢ i → slice_get ps j ≡ Some p → seat_at id me'.0 p ≡ seat_at id me.0 p
          alike j p ne there =
              let apart : p.mutex.0 ≢ i = λ e. ne (sym (placed j p there) ∙ e) in
              ap (λ (x : MutexView). record { table = id; mutex = p.mutex; number = p.number; depth = p.depth; view = x }) (part_now p.mutex.0 ∙ went.others p.mutex.0 apart ∙ sym (part_was p.mutex.0))

      -- no seat has moved
      pub same_seats : AreTheSame (seats_at id me.0 ps) (seats_at id me'.0 ps')
      unfolding at_seat
      same_seats =
          let one = at_seat (λ was is. Unit {0}) tt in
          let number : at.is.mutex.0 ≡ at.was.mutex.0 = ap (λ (p : MutexPlace). p.mutex.0) at.does in
          let now : (part_of me'.0 at.is.mutex.0).held.seats ≡ (mutex_of i went.now).held.seats = ap (λ (x : MutexView). x.held.seats) (part_now at.is.mutex.0 ∙ ap (λ j. mutex_of j went.now) is_mutex) in
          let was : (part_of me.0 at.was.mutex.0).held.seats ≡ (mutex_of i v).held.seats = ap (λ (x : MutexView). x.held.seats) (part_was at.was.mutex.0 ∙ ap (λ j. mutex_of j v) (placed i at.was at.there)) in
          let bound : (part_of me'.0 at.is.mutex.0).held.seats ≡ (part_of me.0 at.was.mutex.0).held.seats = now ∙ ap (λ (h : MutexHold). h.seats) went.does.held ∙ sym was in
          let home : mutex_home (seat_at id me'.0 at.is) ≡ mutex_home (seat_at id me.0 at.was) = λ j. record { table = id; number = number j; bound = bound j } in
          record {
            homes = ap (map mutex_home) one.changed ∙ map-kept mutex_home (seats_at id me.0 ps) i one.was one.is one.there home;
            numbers = ap (map (λ (s : MutexSeatState). s.number)) one.changed ∙ map-kept (λ (s : MutexSeatState). s.number) (seats_at id me.0 ps) i one.was one.is one.there (ap (λ (p : MutexPlace). p.number) at.does);
          }

      pub its_after : ((j : ℕ) (p : MutexPlace) → slice_get ps j ≡ Some p → p.number ≡ k) → ((j : ℕ) (p : MutexPlace) → slice_get ps j ≡ Some p → owns (mutex_of j v).held.role ≡ nat_lt 0 p.depth) → owns (mutex_of i went.now).held.role ≡ nat_lt 0 at.is.depth → AreItsPlaces me'.0 ps'
      its_after numbers owners owned = record {
        number = k;
        thread = went.now;
        one = went.one;
        placed = λ j p there. each-set (λ j (p : MutexPlace). p.mutex.0 ≡ j) ps i at.is placed is_mutex j p (sym (ap (λ l. slice_get l j) at.changed) ∙ there);
        numbers = λ j p there. each-set (λ j (p : MutexPlace). p.number ≡ k) ps i at.is numbers (ap (λ (p : MutexPlace). p.number) at.does ∙ numbers i at.was at.there) j p (sym (ap (λ l. slice_get l j) at.changed) ∙ there);
        owners = λ j p there. each-but (λ j (p : MutexPlace). owns (mutex_of j went.now).held.role ≡ nat_lt 0 p.depth) ps i at.is
            (λ j p ne there. ap (λ (x : MutexView). owns x.held.role) (went.others j ne) ∙ owners j p there) owned j p (sym (ap (λ l. slice_get l j) at.changed) ∙ there);
      }

      pub table_after : (table at' : TableId) (first : KernelView C) → at' ≡ table → table.words ≡ 1 + length ps → length ps ≡ mutex_count first → AreItsPlaces me'.0 ps' → IsAtTable table first at' me'.0 ps'
      table_after table at' first same words all its =
          let long : length ps' ≡ length ps = ap length at.changed ∙ length-set ps i at.is in
          record { same = same; words = words ∙ ap (λ n. 1 + n) (sym long); all = long ∙ all; its = its }

  module _ (first : KernelView C) (slots id k : ℕ) (v : Thread C) (me : KernelMe C) (one : me.0 ≡ place k v ∷ []) (i : ℕ) (within : i < mutex_count first) where
    -- what a try and an unlocking by anybody owe, of a mutex without a ceiling
    module _ (plain : ceilings_of first i ≡ false) (f : ℕ → ℕ) (st : Step (Option (KernelView C))) (at : st.word ≡ 1 + i) where
      pub tries_known : step_may k (mutex_of i v) tries → ((n : ℕ) → step_word n k (mutex_of i v) tries ≡ f n) → Allows (KeptKnown first) slots id me (1 + i) f (tried_known st me)
      tries_known may same = tries_tied past_of room_of ComesFrom first ceilings_of mutex_count slots id k v me one i within plain f st at tried may same (λ found u d. ((refl, d), tried_of k (mutex_of i v) u found d))

      pub unlocks_known : step_may k (mutex_of i v) unlocks → ((n : ℕ) → step_word n k (mutex_of i v) unlocks ≡ f n) → Allows (KeptKnown first) slots id me (1 + i) f (unlocked_known st me)
      unlocks_known may same = unlocks_tied past_of room_of ComesFrom first ceilings_of mutex_count slots id k v me one i within plain f st at unlocked may same (λ found u d. ((refl, d), unlocked_of k (mutex_of i v) u found d))

    -- what a step by the thread that has the kernel owes
    pub marks_held : HasKernelFor i me.0 → (kind : MutexKind) → needs_kernel (ceilings_of first i) kind ≡ true → step_may k (mutex_of i v) kind → (st : Step (Option (KernelView C))) → st.word ≡ 1 + i → (tells : Tells (Option (KernelView C)) MutexView)
        → ((found : ℕ) (u : MutexView) → MutexDoes k (mutex_of i v) kind found u → tells st k (mutex_of i v, me.1) found (u, me.1))
        → (f : Step (Option (KernelView C)) → ℕ → ℕ) → ((n : ℕ) → step_word n k (mutex_of i v) kind ≡ f st n) → Allows (KeptKnown first) slots id me (1 + i) (f st) (by_holder kind f tells st me)
    marks_held (h, taken, about) kind needs may st at tells weaker f same =
        marks_tied past_of room_of ComesFrom first ceilings_of mutex_count slots id k v me one h (sym (ap taken_in one) ∙ taken) i within (subst (λ (hand : CoreHand C). IsAbout i (note_in hand)) one about) kind needs may st at f same tells weaker

-- a token that twice keeps what it says of the core
pub core_twice : {C : Type 0} {one two three : KernelMe C} → TellsTheSame one two → TellsTheSame two three → TellsTheSame one three
core_twice first then = record { core = then.core ∙ first.core; first = then.first ∙ first.first; lock = then.lock ∙ first.lock }
