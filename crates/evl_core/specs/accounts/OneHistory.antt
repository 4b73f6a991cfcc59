-- All that two callers of one machine know together: of its kernel, of each mutex's word, and of each stax.
use Rattle.std.specs.Prelude.{◌≡◌, ◌≢◌, ◌⊎◌, ◌<◌, ℕ, List, Some, slice_get}
use Rattle.evl_kernel.specs.histories.Histories.{History}
use Rattle.evl_kernel.specs.state.KernelViews.{KernelView}
use Rattle.evl_words.specs.declared.history.Place.{Place}
use Rattle.evl_words.specs.Hands.{place}
use Rattle.evl_words.specs.GateCalls.{AgreeAtGate, SeatState}
use Rattle.evl_words.specs.MutexCalls.{AgreeAtMutex, AreAtMutex, MutexSeatState}
use Rattle.evl_words.specs.MutexWorld.{MutexView}
use Rattle.evl_core.specs.declared.views.Account.{Account}
use Rattle.evl_core.specs.declared.views.ThreadView.{ThreadView}
use Rattle.evl_core.specs.accounts.Accounts.{Fits, IsAccount}
use Rattle.evl_core.specs.rule.CoreRule.{account_at}
use Rattle.evl_core.specs.rule.ThreadRule.{mutex_of}
use Rattle.evl_core.specs.rule.Known.{ComesFrom, ceilings_of, mutex_count, past_of, room_of}
use Rattle.evl_core.specs.rule.TieTells.{EventOf}
use Rattle.evl_core.specs.worlds.OneWorld.{looks}
use Rattle.evl_core.specs.lock.Lock.{LockStep, LockView, idle, lock_author}
use Rattle.evl_words.specs.History.{SeeOneHistory}
use Rattle.evl_words.specs.Machine.{IsLegal}

-- rule: Two callers of a machine know one history of its kernel, of the core's lock, of each mutex's word and of each
--   stax; at most one had the kernel at a time, at most one has a mutex, and both hold a stax only at one stage
--   (PROMISES has it in full).
--   also: OneHistory.{AgreeOnLock, AgreeOnMutexes, AgreeOnStaxes}
--   clauses: Machine::agree; StaxGate::agree; MutexWord::agree; look_together
--   rows: callers_meet
-- They act for threads of their own, and each knows what an account knows. One of the histories that they have seen of the kernel is the beginning of the other, and the longer one has just the other's own calls of its thread
pub record OneHistory (a b : Account) : Type 0 where
  pub apart : a.thread ≢ b.thread
  pub one : IsAccount a
  pub other : IsAccount b
  pub longer : Fits b.seen a ⊎ Fits a.seen b

-- their seats at each mutex agree, and those at each stax
abbrev pub AgreeOnMutexes : List MutexSeatState → List MutexSeatState → Type 0
AgreeOnMutexes ps qs = (i : ℕ) (p q : MutexSeatState) → slice_get ps i ≡ Some p → slice_get qs i ≡ Some q → AgreeAtMutex p q

abbrev pub AgreeOnStaxes : List SeatState → List SeatState → Type 0
AgreeOnStaxes ps qs = (i : ℕ) (p q : SeatState) → slice_get ps i ≡ Some p → slice_get qs i ≡ Some q → AgreeAtGate p q

-- One of the histories that they have seen of the core's lock is the beginning of the other, and the longer one has just the other's own steps there. Both are runs of the lock from where nobody has the kernel, in which one thread at most has it at a time
pub record AgreeOnLock (j : ℕ) (u : LockView) (k : ℕ) (v : LockView) : Type 0 where
  pub longer : SeeOneHistory lock_author j u k v
  pub one : IsLegal LockStep idle u.seen
  pub other : IsLegal LockStep idle v.seen

-- two threads fit one history of the kernel and one of its lock, and are together at each mutex's word; so says a load of the lock's word, which is an event of the one world
pub record AreTogether {C : Type 0} (p q : Place (ThreadView (KernelView C) MutexView)) : Type 0 where
  pub apart : p.number ≢ q.number
  pub history : History
  pub one : Fits history (account_at p.number p.view.core)
  pub other : Fits history (account_at q.number q.view.core)
  pub lock : AgreeOnLock p.number p.view.core.lock q.number q.view.core.lock
  pub look : (found : ℕ) × EventOf past_of room_of ComesFrom ceilings_of mutex_count p.number p.view (looks 0) found p.view
  pub mutexes : (i : ℕ) → i < mutex_count p.view.core.first → AreAtMutex (place p.number (mutex_of i p.view)) (place q.number (mutex_of i q.view))
