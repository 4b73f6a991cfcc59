-- The rule of the machine's table, and what is read of its tokens.
use Rattle.std.specs.Prelude.{◌≡◌, ◌==◌, ℕ, Bool, List, [], ◌∷◌, length, slice_get, Option, None, bit_and, bit_or}
use prog.Atomic.{either}
use Rattle.atomic_table.specs.Table.{State, Me, Step}
use Rattle.evl_kernel.specs.histories.Histories.{History}
use Rattle.evl_kernel.specs.state.KernelViews.{KernelView}
use Rattle.evl_kernel.specs.state.Callbacks.{BringsNone, handlers_in}
use Rattle.evl_words.specs.Hands.{Hand, Told}
use Rattle.evl_words.specs.Parts.{Tells}
use Rattle.evl_words.specs.MutexWorld.{MutexKind, MutexView, accepts, awaits, claims, forgets, frees, offers, settles, tries, unlocks}
use Rattle.evl_words.specs.MutexRule.{awaited, claimed, does, forgot, tried, unlocked}
use Rattle.evl_core.specs.declared.views.Account.{Account}
use Rattle.evl_core.specs.declared.views.ThreadView.{ThreadView}
use Rattle.evl_core.specs.lock.Lock.{LockView, new_lock}
use Rattle.evl_core.specs.rule.Ceilings.{has_ceiling}
use Rattle.evl_core.specs.accounts.Nothing.{no_kernel}
use Rattle.evl_core.specs.accounts.Accounts.{threads_of}
use Rattle.evl_core.specs.accounts.Seats.{CoreMe, view}
use Rattle.evl_core.specs.rule.CoreRule.{account_at}
use Rattle.evl_core.specs.rule.CoreTells.{took, gave}
use Rattle.evl_core.specs.rule.ThreadRule.{MachineRule, all_threads}
use Rattle.evl_core.specs.rule.Ties.{mutex_tie}
use Rattle.evl_core.specs.rule.TieTells.{on_mutex, on_noted, with_given, with_owned}

-- since the kernel was made no callback came into it, what is said of them is the same, and so are the board and bank that it began with and its limit
pub record ComesFrom {C : Type 0} (first k : KernelView C) : Type 0 where
  pub board : k.history.board ≡ first.history.board
  pub bank : k.history.bank ≡ first.history.bank
  pub brings : BringsNone first.callbacks k.callbacks
  pub handlers_are : handlers_in k.callbacks.bank ≡ handlers_in first.callbacks.bank
  pub limit : k.limit ≡ first.limit

abbrev pub CoreHand : Type 0 → Type 0
CoreHand C = Hand (ThreadView (KernelView C) MutexView)

abbrev pub KernelMe : Type 0 → Type 0
KernelMe C = Me (Option (KernelView C)) (CoreHand C)

module _ {C : Type 0} where
  abbrev pub past_of : KernelView C → History
  past_of k = k.history

  abbrev pub room_of : KernelView C → ℕ
  room_of k = k.room

  -- the accounts of a hand's threads, what its first thread has taken, and the kernel as it was made
  abbrev pub accounts_in : CoreHand C → List Account
  accounts_in [] = []
  accounts_in (p ∷ ps) = account_at p.number p.view.core ∷ accounts_in ps

  abbrev pub taken_in : CoreHand C → Option History
  taken_in [] = None
  taken_in (p ∷ ps) = p.view.core.taken

  abbrev pub first_of : CoreHand C → KernelView C
  first_of [] = no_kernel
  first_of (p ∷ ps) = p.view.core.first

  -- what its first thread has seen of the core's lock
  abbrev pub lock_in : CoreHand C → LockView
  lock_in [] = new_lock
  lock_in (p ∷ ps) = p.view.core.lock

  -- a token that acts for a thread at least
  abbrev pub IsLive : CoreHand C → Type 0
  IsLive hand = (a : Account) × (others : List Account) × (accounts_in hand ≡ a ∷ others)

  -- what the token knows of the calls
  abbrev pub seen : KernelMe C → CoreMe (KernelView C)
  seen m = (view (taken_in m.0) (accounts_in m.0), m.1)

  -- a word for each mutex is in the table after the lock's
  abbrev pub mutex_count : KernelView C → ℕ
  mutex_count first = length first.history.board.mutexes.items

  -- which of them have a ceiling
  abbrev pub ceilings_of : KernelView C → ℕ → Bool
  ceilings_of first i = has_ceiling (slice_get first.history.board.mutexes.items i)

  -- rule: The core and a table's mutex words are one world. Its conditions hold after any steps in which only the
  --   thread that has the kernel claims, settles, offers, frees, accepts and forgets a mutex or tries one with a
  --   ceiling (which no exchange unlocks), and gives the kernel back only with each word tied. The running table's rule
  --   is exactly that world.
  --   clauses: one_world_stands; rule_is_one_world
  abbrev pub KeptKnown : KernelView C → State (Option (KernelView C)) (CoreHand C) → Type 0
  KeptKnown first = MachineRule past_of ComesFrom (mutex_tie past_of (ceilings_of first)) first (mutex_count first)

  abbrev pub first_known : KernelView C → CoreHand C
  first_known first = all_threads first.history first (mutex_count first) (threads_of first.history)

  -- what the steps on the core's lock say, and those on a mutex's word: of anybody, and of the thread that has the kernel
  abbrev pub took_known : Step (Option (KernelView C)) → KernelMe C → ℕ → KernelMe C → Type 0
  took_known = Told (with_owned past_of room_of ComesFrom ceilings_of mutex_count (took past_of room_of ComesFrom))

  abbrev pub gave_known : Step (Option (KernelView C)) → KernelMe C → ℕ → KernelMe C → Type 0
  gave_known = Told (with_given past_of room_of ComesFrom ceilings_of mutex_count (gave past_of room_of ComesFrom))

  abbrev pub by_anybody : MutexKind → Tells (Option (KernelView C)) MutexView → Step (Option (KernelView C)) → KernelMe C → ℕ → KernelMe C → Type 0
  by_anybody kind tells = Told (on_mutex past_of room_of ComesFrom ceilings_of mutex_count kind tells)

  abbrev pub by_holder : MutexKind → (Step (Option (KernelView C)) → ℕ → ℕ) → Tells (Option (KernelView C)) MutexView → Step (Option (KernelView C)) → KernelMe C → ℕ → KernelMe C → Type 0
  by_holder kind f tells = Told (on_noted past_of room_of ComesFrom ceilings_of mutex_count kind f tells)

  abbrev pub tried_known : Step (Option (KernelView C)) → KernelMe C → ℕ → KernelMe C → Type 0
  tried_known = by_anybody tries tried

  abbrev pub unlocked_known : Step (Option (KernelView C)) → KernelMe C → ℕ → KernelMe C → Type 0
  unlocked_known = by_anybody unlocks unlocked

  abbrev pub tried_held_known : Step (Option (KernelView C)) → KernelMe C → ℕ → KernelMe C → Type 0
  tried_held_known = by_holder tries (λ st n. either (n == 0) st.second n) tried

  abbrev pub claimed_known : Step (Option (KernelView C)) → KernelMe C → ℕ → KernelMe C → Type 0
  claimed_known = by_holder claims (λ st n. bit_or n st.first) claimed

  abbrev pub settled_known : Step (Option (KernelView C)) → KernelMe C → ℕ → KernelMe C → Type 0
  settled_known = by_holder settles (λ st n. st.first) (does settles)

  abbrev pub offered_known : ℕ → Bool → Step (Option (KernelView C)) → KernelMe C → ℕ → KernelMe C → Type 0
  offered_known next more = by_holder (offers next more) (λ st n. st.first) (does (offers next more))

  abbrev pub freed_known : Step (Option (KernelView C)) → KernelMe C → ℕ → KernelMe C → Type 0
  freed_known = by_holder frees (λ st n. st.first) (does frees)

  abbrev pub forgot_known : Step (Option (KernelView C)) → KernelMe C → ℕ → KernelMe C → Type 0
  forgot_known = by_holder forgets (λ st n. n) forgot

  abbrev pub awaited_known : Step (Option (KernelView C)) → KernelMe C → ℕ → KernelMe C → Type 0
  awaited_known = by_holder awaits (λ st n. n) awaited

  abbrev pub accepted_known : Step (Option (KernelView C)) → KernelMe C → ℕ → KernelMe C → Type 0
  accepted_known = by_holder accepts (λ st n. bit_and n st.first) (does accepts)
