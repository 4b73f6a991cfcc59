-- A thread's token at the core's table, and its places at the mutexes whose words stand there.
use Rattle.std.specs.Prelude.{◌≡◌, ℕ, ◌+◌, nat_lt, Option, Some, None, IsSomeAnd, Result, Ok, Err, List, [], ◌∷◌, length, map, slice_get}
use Rattle.atomic_table.specs.Seated.{TableId}
use Rattle.evl_base.specs.declared.refusal.Refusal.{Refusal}
use Rattle.evl_base.specs.declared.refusal.Refusal.TheVariants.{Again}
use Rattle.evl_kernel.specs.histories.Histories.{History}
use Rattle.evl_kernel.specs.state.KernelViews.{KernelView}
use Rattle.evl_words.specs.declared.mutex.MutexPass.{MutexPass}
use Rattle.evl_words.specs.declared.mutex.MutexRole.TheVariants.{Owner}
use Rattle.evl_words.specs.declared.mutex.MutexCall.TheVariants.{Accept}
use Rattle.evl_words.specs.declared.mutex.MutexReply.TheVariants.{Passed, Refused}
use Rattle.evl_words.specs.declared.mutex.place.MutexPlace.{MutexPlace}
use Rattle.evl_words.specs.Hands.{place}
use Rattle.evl_words.specs.MutexCalls.{MutexSeatState, Calls, IsPassOf, Makes, SeesOffer}
use Rattle.evl_words.specs.MutexWorld.{EndsOffered, MutexView, accepts, awaits, newcomer, owns}
use Rattle.evl_core.specs.declared.views.Noted.{Noted}
use Rattle.evl_core.specs.declared.views.ThreadView.{ThreadView}
use Rattle.evl_core.specs.words.AtSeats.{AtSeat}
use Rattle.evl_core.specs.rule.CoreRule.{IsAbout}
use Rattle.evl_core.specs.words.Homes.{mutex_home}
use Rattle.evl_core.specs.rule.ThreadRule.{mutex_of}
use Rattle.evl_core.specs.rule.Known.{CoreHand, KernelMe, first_of, mutex_count, seen, taken_in, lock_in}

module _ {C : Type 0} where
  -- what the token's thread knows of mutex i, and what it has noted since it took the kernel
  abbrev pub part_of : CoreHand C → ℕ → MutexView
  part_of [] i = newcomer 0
  part_of (p ∷ ps) i = mutex_of i p.view

  abbrev pub note_in : CoreHand C → Option Noted
  note_in [] = None
  note_in (p ∷ ps) = p.view.core.note

  -- the seat that a place and the token are together
  abbrev pub seat_at : TableId → CoreHand C → MutexPlace → MutexSeatState
  seat_at table hand p = record { table = table; mutex = p.mutex; number = p.number; depth = p.depth; view = part_of hand p.mutex.0 }

  abbrev pub seats_at : TableId → CoreHand C → List MutexPlace → List MutexSeatState
  seats_at table hand places = map (seat_at table hand) places

  -- the thread has the kernel, and has made no step on a word since it took it, or just on this mutex's
  abbrev pub HasKernelFor : ℕ → CoreHand C → Type 0
  HasKernelFor i hand = (h : History) × (taken_in hand ≡ Some h) × IsAbout i (note_in hand)

  -- the token has one thread, whose places these are: it holds a mutex exactly where it owns it
  pub record AreItsPlaces (hand : CoreHand C) (places : List MutexPlace) : Type 0 where
    pub number : ℕ
    pub thread : ThreadView (KernelView C) MutexView
    pub one : hand ≡ place number thread ∷ []
    pub placed : (i : ℕ) (p : MutexPlace) → slice_get places i ≡ Some p → p.mutex.0 ≡ i
    pub numbers : (i : ℕ) (p : MutexPlace) → slice_get places i ≡ Some p → p.number ≡ number
    pub owners : (i : ℕ) (p : MutexPlace) → slice_get places i ≡ Some p → owns (mutex_of i thread).held.role ≡ nat_lt 0 p.depth

  -- the token is of this table, which has a word for each of the thread's places after the lock's
  pub record IsAtTable (table : TableId) (first : KernelView C) (at : TableId) (hand : CoreHand C) (places : List MutexPlace) : Type 0 where
    pub same : at ≡ table
    pub words : table.words ≡ 1 + length places
    pub all : length places ≡ mutex_count first
    pub its : AreItsPlaces hand places

  -- the token knows as much of each mutex, and its thread has the same places
  pub record KeepsPlaces (old new : CoreHand C) : Type 0 where
    pub parts : (i : ℕ) → part_of new i ≡ part_of old i
    pub its : (places : List MutexPlace) → AreItsPlaces old places → AreItsPlaces new places

  -- the thread has just taken the kernel, and made no step on a word yet
  abbrev pub HasKernel : CoreHand C → Type 0
  HasKernel hand = (i : ℕ) → HasKernelFor i hand

  -- of the core the token says the same
  pub record TellsTheSame (old new : KernelMe C) : Type 0 where
    pub core : seen new ≡ seen old
    pub first : first_of new.0 ≡ first_of old.0
    pub lock : lock_in new.0 ≡ lock_in old.0

-- the same seats, by where they belong and by their numbers
pub record AreTheSame (old new : List MutexSeatState) : Type 0 where
  pub homes : map mutex_home new ≡ map mutex_home old
  pub numbers : map (λ s. s.number) new ≡ map (λ s. s.number) old

-- All that each step on the word of mutex i keeps, and its effect: the token and the places are of the same table, of the core the token says the same, and of its seats, which are the same, that at the mutex alone changes, and by this
pub record DoesAtWord {C : Type 0} (id : TableId) (first : KernelView C) (old : TableId) (me : KernelMe C) (places : List MutexPlace) (new : TableId) (me' : KernelMe C) (places' : List MutexPlace) (i : ℕ) (step : MutexSeatState → MutexSeatState → Type 0) : Type 0 where
  pub table : IsAtTable id first new me'.0 places'
  pub core : TellsTheSame me me'
  pub seats : AreTheSame (seats_at old me.0 places) (seats_at new me'.0 places')
  pub at : AtSeat i (seats_at old me.0 places) (seats_at new me'.0 places') step

-- what a seat does that looks for an offer, and what it does that takes the one that it saw
abbrev pub AwaitsSo : Result (Unit {0}) Refusal → MutexSeatState → MutexSeatState → Type 0
AwaitsSo (Ok seen) was is = Makes was awaits is × SeesOffer was is
AwaitsSo (Err refusal) was is = Makes was awaits is × (refusal ≡ Again) × Calls was Accept (Refused Again) is was.view.held.role was.depth

abbrev pub TakesOffer : MutexPass → MutexSeatState → MutexSeatState → Type 0
TakesOffer pass was is = Makes was accepts is × IsPassOf pass was × Calls was Accept Passed is Owner 1

abbrev pub SeesOffered : List MutexSeatState → ℕ → Type 0
SeesOffered seats i = IsSomeAnd (slice_get seats i) (λ s. EndsOffered s.number s.view.seen)
