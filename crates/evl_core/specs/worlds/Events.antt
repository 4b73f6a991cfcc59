-- The core's steps as events, read at a caller's account.
use Rattle.std.specs.Prelude.{◌≡◌, ◌≢◌, ℕ, List, [], ◌∷◌, Option, Some, None}
use Rattle.evl_kernel.specs.state.KernelViews.{KernelView}
use Rattle.evl_core.specs.declared.views.Account.{Account}
use Rattle.evl_core.specs.declared.views.CorePart.{CorePart}
use Rattle.evl_core.specs.declared.views.Noted.{Noted}
use Rattle.evl_core.specs.accounts.Accounts.{lost_one}
use Rattle.evl_core.specs.lock.Lock.{LockView, LosesTo}
use Rattle.evl_words.specs.MutexWorld.{MutexView}
use Rattle.evl_core.specs.declared.views.ThreadView.{ThreadView}
use Rattle.evl_core.specs.rule.CoreRule.{core_part}
use Rattle.evl_core.specs.rule.TieTells.{EventOf}
use Rattle.evl_core.specs.worlds.OneWorld.{on_lock}
use Rattle.evl_core.specs.worlds.CoreWorld.{CoreKind, takes, gives}
use Rattle.evl_core.specs.rule.Known.{ComesFrom, ceilings_of, mutex_count, past_of, room_of}

module _ {C : Type 0} where
  -- what a thread with this account knows of the core, while it has nothing of it and while it has the kernel
  abbrev pub at_rest : KernelView C → Account → Option Noted → LockView → CorePart (KernelView C)
  at_rest first a note lock = core_part None a.seen a.mine a.found a.lost first note lock

  abbrev pub in_hand : KernelView C → Account → Option Noted → LockView → CorePart (KernelView C)
  in_hand first a note lock = core_part (Some a.seen) a.seen a.mine a.found a.lost first note lock

  -- a step on the core's lock took what the thread k knows of the core from c to d, and was an event of the one world of core and mutex words, by a thread that knew this beside what it knew of the mutexes
  pub record KernelEvent (k : ℕ) (c : CorePart (KernelView C)) (kind : CoreKind (KernelView C)) (found : ℕ) (d : CorePart (KernelView C)) : Type 0 where
    pub before : ThreadView (KernelView C) MutexView
    pub after : ThreadView (KernelView C) MutexView
    pub was : before.core ≡ c
    pub is : after.core ≡ d
    pub event : EventOf past_of room_of ComesFrom ceilings_of mutex_count k before (on_lock kind) found after

  -- rule: A take and a give are each one event of the one world of core and mutex words, in some such world, over what
  --   the caller knew of the kernel and of the lock before and after; `CoreBusy`, and a take that comes back, found the
  --   word taken.
  --   also: Events.{Gives, FailsToTake}; Handles.CallerState; Visits.FindsTaken; Calls.ActsOnCore; Waitings.LooksBy;
  --   Events.KernelEvent; OneWorld.IsOneEvent
  --   clauses: Machine::take: event; takes_are_lost_to_another; Held::give; Machine::{try_call, call, close}
  -- A take found the core free. Or it found it taken: then its thread has lost one more, and knows nothing else but that another thread had the kernel, after all that it had seen of the lock's history. Each is of what the thread knows of the kernel and of the lock, before and after
  abbrev pub Takes : KernelView C → Account → LockView → Account → LockView → Type 0
  Takes first a l a' l' = (was is : Option Noted) × KernelEvent a.thread (at_rest first a was l) takes 0 (in_hand first a' is l')

  abbrev pub FailsToTake : KernelView C → Account → LockView → Account → LockView → Type 0
  FailsToTake first a l a' l' = (a' ≡ lost_one a) × (found : ℕ) × (found ≢ 0) × (was is : Option Noted) × LosesTo a.thread l l' × KernelEvent a.thread (at_rest first a was l) takes found (at_rest first a' is l')

  -- takes that found the core taken, the last one first, each with what was known before it
  abbrev pub LosesTakes : KernelView C → Account → LockView → List (Account × LockView) → Account → LockView → Type 0
  LosesTakes first a l [] a' l' = (a' ≡ a) × (l' ≡ l)
  LosesTakes first a l (before ∷ earlier) a' l' = LosesTakes first a l earlier before.0 before.1 × FailsToTake first before.0 before.1 a' l'

  -- the kernel was given back
  abbrev pub Gives : KernelView C → Account → LockView → KernelView C → Account → LockView → Type 0
  Gives first a l k a' l' = (found : ℕ) × (was is : Option Noted) × KernelEvent a.thread (in_hand first a was l) (gives k) found (at_rest first a' is l')
