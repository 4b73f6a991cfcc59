-- All that two callers of one machine know together.
use Rattle.std.proofs.Common.{◌≡◌, ℕ, ◌<◌, nat_lt, List, [], Option, Some, None, slice_get, refl, sym, ap, ◌∙◌, subst}
use Rattle.std.specs.Option.{option_map}
use Rattle.std.proofs.lemmas.Option.{slice_get-map, slice_get_within}
use Rattle.atomic_table.specs.Seated.{TableId}
use Rattle.evl_kernel.specs.state.KernelViews.{KernelView}
use Rattle.evl_words.specs.declared.history.Place.{Place}
use Rattle.evl_words.specs.declared.mutex.place.MutexPlace.{MutexPlace}
use Rattle.evl_words.specs.Hands.{place}
use Rattle.evl_words.specs.Looks as looks
use Rattle.evl_words.specs.MutexCalls.{AreAtMutex, MutexSeatState, place_of}
use Rattle.evl_words.specs.MutexWorld.{MutexView, owns}
use Rattle.evl_words.proofs.MutexSeats.{agree_at_mutex}
use Rattle.evl_core.specs.declared.views.Account.{Account}
use Rattle.evl_core.specs.declared.views.ThreadView.{ThreadView}
use Rattle.evl_core.specs.accounts.Accounts.{IsAccount}
use Rattle.evl_machine.specs.callers.Actors.{SeatedActor, acting}
use Rattle.evl_core.specs.rule.CoreRule.{account_at}
use Rattle.evl_core.specs.rule.ThreadRule.{mutex_of}
use Rattle.evl_core.specs.accounts.Seats.{account_of, first_account, IsCaller}
use Rattle.evl_core.specs.rule.Known.{CoreHand, accounts_in, first_of, lock_in, mutex_count, seen}
use Rattle.evl_core.specs.lock.Lock.{LockView}
use Rattle.evl_core.specs.words.MutexTokens.{AreItsPlaces, IsAtTable, part_of, seat_at, seats_at}
use Rattle.evl_core.specs.accounts.OneHistory.{AgreeOnLock, AgreeOnMutexes, AreTogether, OneHistory}
use Rattle.evl_core.proofs.accounts.OneHistory.{one_history}

module _ {C : Type 0} where
  -- what two that act for threads know together, of the kernel
  pub kernel_together : (a b : SeatedActor C) → IsCaller (seen a.me) a.thread → IsCaller (seen b.me) b.thread → AreItsPlaces a.me.0 a.places → AreItsPlaces b.me.0 b.places → looks.AreTogether AreTogether a.me.0 b.me.0 → OneHistory (account_of (seen a.me)) (account_of (seen b.me))
  kernel_together a b rests also its theirs told =
      let one : account_of (seen a.me) ≡ account_at its.number its.thread.core = ap account_in its.one in
      let other : account_of (seen b.me) ≡ account_at theirs.number theirs.thread.core = ap account_in theirs.one in
      let t = told (place its.number its.thread) (place theirs.number theirs.thread) its.one theirs.one in
      subst (λ (z : Account × Account). OneHistory z.0 z.1) (λ i. (sym one i, sym other i))
      (one_history t.history (account_at its.number its.thread.core) (account_at theirs.number theirs.thread.core) t.apart (subst IsAccount one rests.account) (subst IsAccount other also.account) t.one t.other)
    where
      account_in : CoreHand C → Account
      account_in hand = account_of {S = KernelView C} (seen (hand, []))

  -- and of the core's lock
  pub lock_together : (a b : SeatedActor C) → AreItsPlaces a.me.0 a.places → AreItsPlaces b.me.0 b.places → looks.AreTogether AreTogether a.me.0 b.me.0
      → AgreeOnLock (account_of (seen a.me)).thread (lock_in a.me.0) (account_of (seen b.me)).thread (lock_in b.me.0)
  lock_together a b its theirs told =
      let t = told (place its.number its.thread) (place theirs.number theirs.thread) its.one theirs.one in
      subst (λ (z : (ℕ × LockView) × (ℕ × LockView)). AgreeOnLock z.0.0 z.0.1 z.1.0 z.1.1) (λ i. ((sym (thread a its) i, sym (ap lock_in its.one) i), (sym (thread b theirs) i, sym (ap lock_in theirs.one) i))) t.lock
    where
      thread : (x : SeatedActor C) (own : AreItsPlaces x.me.0 x.places) → (account_of (seen x.me)).thread ≡ own.number
      thread x own = ap (λ (hand : CoreHand C). (first_account (accounts_in hand)).thread) own.one

  -- the place of which a seat is read
  pub placed_at : (table : TableId) (hand : CoreHand C) (ps : List MutexPlace) (i : ℕ) (s : MutexSeatState) → slice_get (seats_at table hand ps) i ≡ Some s → (p : MutexPlace) × (slice_get ps i ≡ Some p) × (seat_at table hand p ≡ s)
  placed_at table hand ps i s at = by (slice_get ps i) refl (sym (slice_get-map (seat_at table hand) ps i) ∙ at)
    where
      by : (o : Option MutexPlace) → slice_get ps i ≡ o → option_map (seat_at table hand) o ≡ Some s → (p : MutexPlace) × (slice_get ps i ≡ Some p) × (seat_at table hand p ≡ s)
      by None is e = absurd (cc)
      by (Some p) is e = (p, is, cc)

  -- a seat at the mutex i, by its thread: its place there, and how often it holds the mutex
  record IsSeatAt (k : ℕ) (v : ThreadView (KernelView C) MutexView) (i : ℕ) (s : MutexSeatState) : Type 0 where
    placed : place_of s ≡ place k (mutex_of i v)
    holds : owns s.view.held.role ≡ nat_lt 0 s.depth

  seat_is : (table : TableId) (hand : CoreHand C) (ps : List MutexPlace) (its : AreItsPlaces hand ps) (i : ℕ) (s : MutexSeatState) → slice_get (seats_at table hand ps) i ≡ Some s → IsSeatAt its.number its.thread i s
  seat_is table hand ps its i s at =
      let p = placed_at table hand ps i s at in
      let viewed : part_of hand p.0.mutex.0 ≡ mutex_of i its.thread = ap (part_of hand) (its.placed i p.0 p.1) ∙ ap (λ (x : CoreHand C). part_of x i) its.one in
      subst (IsSeatAt its.number its.thread i) p.2 (record {
        placed = λ j. place (its.numbers i p.0 p.1 j) (viewed j);
        holds = ap (λ (u : MutexView). owns u.held.role) viewed ∙ its.owners i p.0 p.1;
      })

  -- and of the mutexes
  pub mutexes_together : (a b : SeatedActor C) → IsAtTable a.table (first_of a.me.0) a.table a.me.0 a.places → AreItsPlaces b.me.0 b.places → looks.AreTogether AreTogether a.me.0 b.me.0 → AgreeOnMutexes (acting a).mutexes (acting b).mutexes
  mutexes_together a b at theirs told i s t here there =
      let its = at.its in
      let p = placed_at a.table a.me.0 a.places i s here in
      let one = seat_is a.table a.me.0 a.places its i s here in
      let other = seat_is b.table b.me.0 b.places theirs i t there in
      let know = told (place its.number its.thread) (place theirs.number theirs.thread) its.one theirs.one in
      let within : i < mutex_count its.thread.core.first = subst (λ n. i < n) (at.all ∙ ap (λ (hand : CoreHand C). mutex_count (first_of hand)) its.one) (slice_get_within a.places i p.0 p.1) in
      agree_at_mutex s t one.holds other.holds (subst (λ (z : Place MutexView × Place MutexView). AreAtMutex z.0 z.1) (λ j. (sym one.placed j, sym other.placed j)) (know.mutexes i within))
