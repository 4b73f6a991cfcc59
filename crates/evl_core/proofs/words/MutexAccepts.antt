-- A look at an offer and what takes it are one acceptance of the thread's seat.
use Rattle.std.proofs.Common.{◌≡◌, ◌<◌, ℕ, zero, suc, List, [], ◌∷◌, Some, Ok, slice_get, slice_set, refl, sym, ap, ◌∙◌, subst}
use Rattle.std.specs.Option.{option_map}
use Rattle.std.specs.Prelude.{IsSomeAnd}
use Rattle.std.proofs.lemmas.List.{length-map}
use Rattle.std.proofs.lemmas.Option.{same_Some, slice_get-map, slice_get_within}
use Rattle.atomic_table.specs.Seated.{TableId}
use Rattle.evl_kernel.specs.state.KernelViews.{KernelView}
use Rattle.evl_words.specs.declared.mutex.MutexPass.{MutexPass}
use Rattle.evl_words.specs.declared.mutex.place.MutexPlace.{MutexPlace}
use Rattle.evl_words.specs.MutexCalls.{MutexSeatState}
use Rattle.evl_words.specs.MutexWorld.{EndsOffered}
use Rattle.evl_core.specs.words.AtSeats.{AtSeat}
use Rattle.evl_core.specs.rule.Known.{CoreHand, KernelMe}
use Rattle.evl_core.specs.words.MutexSeats.{AcceptsSo}
use Rattle.evl_core.specs.words.MutexTokens.{AreTheSame, AwaitsSo, DoesAtWord, IsAtTable, SeesOffered, TakesOffer, seat_at, seats_at}
use Rattle.evl_core.proofs.words.SeatLists.{set_there}
use Rattle.evl_core.proofs.words.MutexDeeds.{accepts_so}
use Rattle.evl_core.proofs.words.MutexStepLaws.{some_place}
use Rattle.evl_core.proofs.words.MutexTokens.{core_twice}

-- seats that are the same twice
pub same_twice : {a b c : List MutexSeatState} → AreTheSame a b → AreTheSame b c → AreTheSame a c
same_twice one two = record { homes = two.homes ∙ one.homes; numbers = two.numbers ∙ one.numbers }

set_twice : {S : Type 0} (xs : List S) (i : ℕ) (a b : S) → slice_set (slice_set xs i a) i b ≡ slice_set xs i b
set_twice [] i a b = refl
set_twice (x ∷ xs) zero a b = refl
set_twice (x ∷ xs) (suc i) a b = ap (λ ys. x ∷ ys) (set_twice xs i a b)

module _ {C : Type 0} (id id' : TableId) (hand hand' : CoreHand C) (ps : List MutexPlace) (i : ℕ) (same : id' ≡ id) (looked : AtSeat i (seats_at id hand ps) (seats_at id' hand' ps) (AwaitsSo (Ok tt))) where
  now_there : slice_get (seats_at id' hand' ps) i ≡ Some looked.is
  now_there = ap (λ (ss : List MutexSeatState). slice_get ss i) looked.changed ∙ set_there (seats_at id hand ps) i looked.was looked.is looked.there

  place : (p : MutexPlace) × (slice_get ps i ≡ Some p)
  place = some_place ps i (subst (λ n. i < n) (length-map ps (seat_at id hand)) (slice_get_within (seats_at id hand ps) i looked.was looked.there))

  was_is : looked.was ≡ seat_at id hand place.0
  was_is = same_Some looked.was (seat_at id hand place.0) (sym looked.there ∙ slice_get-map (seat_at id hand) ps i ∙ ap (option_map (seat_at id hand)) place.1)

  is_is : looked.is ≡ seat_at id' hand' place.0
  is_is = same_Some looked.is (seat_at id' hand' place.0) (sym now_there ∙ slice_get-map (seat_at id' hand') ps i ∙ ap (option_map (seat_at id' hand')) place.1)

  number : looked.is.number ≡ looked.was.number
  number = ap (λ (s : MutexSeatState). s.number) is_is ∙ sym (ap (λ (s : MutexSeatState). s.number) was_is)

  pub sees_offered : SeesOffered (seats_at id' hand' ps) i
  sees_offered = subst (λ o. IsSomeAnd o (λ (s : MutexSeatState). EndsOffered s.number s.view.seen)) (sym now_there) (subst (λ n. EndsOffered n looked.is.view.seen) (sym number) looked.does.1.offered)

  pub accepted : (pass : MutexPass) (new : List MutexSeatState) → AtSeat i (seats_at id' hand' ps) new (TakesOffer pass) → AtSeat i (seats_at id hand ps) new (AcceptsSo (Ok pass))
  accepted pass new took =
      let mid : took.was ≡ looked.is = same_Some took.was looked.is (sym took.there ∙ now_there) in record {
        was = looked.was;
        is = took.is;
        there = looked.there;
        changed = took.changed ∙ ap (λ (ss : List MutexSeatState). slice_set ss i took.is) looked.changed ∙ set_twice (seats_at id hand ps) i looked.is took.is;
        does = accepts_so pass looked.was looked.is took.is (ap (λ (s : MutexSeatState). s.table) is_is ∙ same ∙ sym (ap (λ (s : MutexSeatState). s.table) was_is)) (ap (λ (s : MutexSeatState). s.mutex) is_is ∙ sym (ap (λ (s : MutexSeatState). s.mutex) was_is)) number looked.does
            (subst (λ (s : MutexSeatState). TakesOffer pass s took.is) mid took.does);
      }

-- a look that found the offer, and the step that took it, are an acceptance
pub accept_done : {C : Type 0} {id old mid new : TableId} {first : KernelView C} {me me' me'' : KernelMe C} {ps ps' : List MutexPlace} {i : ℕ} → IsAtTable id first old me.0 ps → DoesAtWord id first old me ps mid me' ps i (AwaitsSo (Ok tt)) → (pass : MutexPass)
    → DoesAtWord id first mid me' ps new me'' ps' i (TakesOffer pass) → DoesAtWord id first old me ps new me'' ps' i (AcceptsSo (Ok pass))
accept_done {C} {id} {old} {mid} {new} {first} {me} {me'} {me''} {ps} {ps'} {i} was one pass two = record {
  table = two.table;
  core = core_twice one.core two.core;
  seats = same_twice one.seats two.seats;
  at = accepted old mid me.0 me'.0 ps i (one.table.same ∙ sym was.same) one.at pass (seats_at new me''.0 ps') two.at;
}
