-- A caller's steps as events of the one world of core and mutex words.
use Rattle.std.specs.Prelude.{◌≡◌, ℕ, List, [], ◌∷◌, Some, slice_get}
use Rattle.evl_kernel.specs.state.KernelViews.{KernelView}
use Rattle.evl_words.specs.MutexCalls.{MutexSeatState}
use Rattle.evl_words.specs.MutexWorld.{MutexKind, MutexView}
use Rattle.evl_core.specs.declared.views.ThreadView.{ThreadView}
use Rattle.evl_core.specs.rule.CoreRule.{account_at}
use Rattle.evl_core.specs.rule.Known.{ComesFrom, CoreHand, ceilings_of, mutex_count, past_of, room_of}
use Rattle.evl_core.specs.rule.ThreadRule.{mutex_of}
use Rattle.evl_core.specs.rule.TieTells.{EventOf}
use Rattle.evl_core.specs.worlds.OneWorld.{OneKind, on_word}
use Rattle.evl_core.specs.words.Noted.{MakesOne}
use Rattle.evl_machine.specs.callers.Handles.{CallerState}

module _ {C : Type 0} where
  -- what the caller is shown is what the thread k knows: of the kernel, as which it was made, of the core's lock, and of each mutex's word
  pub record IsOfThread (k : ℕ) (v : ThreadView (KernelView C) MutexView) (c : CallerState C) : Type 0 where
    pub account : account_at k v.core ≡ c.account
    pub first : v.core.first ≡ c.machine.first
    pub lock : v.core.lock ≡ c.lock
    pub mutexes : (i : ℕ) (s : MutexSeatState) → slice_get c.mutexes i ≡ Some s → mutex_of s.mutex.0 v ≡ s.view

  -- rule: A step on a mutex's word is one event of the one world of core and mutex words: the step of a call without
  --   the kernel, and each step between a call's take and its give, from what the one before it left.
  --   also: OneSteps.StepsOnWords; MutexLocks.{WordCall, SpendsAtWord}; Visits.Visited
  --   clauses: Machine::{try_lock_mutex, unlock_mutex_fast, try_unlock_mutex, begin_lock_mutex, finish_lock_mutex}
  -- the caller made a step of this kind, which was an event of the one world
  pub record StepsInOne (kind : OneKind (KernelView C)) (old new : CallerState C) : Type 0 where
    pub number : ℕ
    pub before : ThreadView (KernelView C) MutexView
    pub after : ThreadView (KernelView C) MutexView
    pub was : IsOfThread number before old
    pub is : IsOfThread number after new
    pub found : ℕ
    pub event : EventOf past_of room_of ComesFrom ceilings_of mutex_count number before kind found after

  -- A token's steps on the words of mutexes, the last one first
  abbrev pub MakesEach : List (ℕ × MutexKind) → CoreHand C → CoreHand C → Type 0
  MakesEach [] old new = new ≡ old
  MakesEach ((i, kind) ∷ earlier) old new = (between : CoreHand C) × MakesEach earlier old between × MakesOne (on_word i kind) between new

  abbrev pub MakesSome : CoreHand C → CoreHand C → Type 0
  MakesSome old new = (steps : List (ℕ × MutexKind)) × MakesEach steps old new

  -- each took what the thread k knows on from what the one before it left, as an event of the one world
  abbrev pub EventsOnWords : ℕ → ThreadView (KernelView C) MutexView → List (ℕ × MutexKind) → ThreadView (KernelView C) MutexView → Type 0
  EventsOnWords k v [] u = u ≡ v
  EventsOnWords k v ((i, kind) ∷ earlier) u = (between : ThreadView (KernelView C) MutexView) × (found : ℕ) × EventsOnWords k v earlier between × EventOf past_of room_of ComesFrom ceilings_of mutex_count k between (on_word i kind) found u

  -- the caller made such steps and no other ones
  pub record StepsOnWords (old new : CallerState C) : Type 0 where
    pub number : ℕ
    pub before : ThreadView (KernelView C) MutexView
    pub after : ThreadView (KernelView C) MutexView
    pub was : IsOfThread number before old
    pub is : IsOfThread number after new
    pub steps : List (ℕ × MutexKind)
    pub events : EventsOnWords number before steps after
