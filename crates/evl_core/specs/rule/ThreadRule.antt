-- The rule of the table in which the core's lock and the mutex words stand, over one view for each thread.
use Rattle.std.specs.Prelude.{ℕ, List, replicate, Option}
use Rattle.atomic_table.specs.Table.{State}
use Rattle.evl_kernel.specs.histories.Histories.{History}
use Rattle.evl_words.specs.Hands.{Hand, Dealt, hand_from}
use Rattle.evl_words.specs.Parts.{Tells, Within, Tabled, part_in, put_in}
use Rattle.evl_words.specs.MutexWorld.{MutexView, newcomer}
use Rattle.evl_words.specs.MutexRule.{MutexPart}
use Rattle.evl_core.specs.declared.views.CorePart.{CorePart}
use Rattle.evl_core.specs.declared.views.ThreadView.{ThreadView}
use Rattle.evl_core.specs.rule.CoreRule.{CoreRuled, Homes, newcomer_part}

module _ {B : Type 0} where
  abbrev pub thread_view : CorePart B → List MutexView → ThreadView B MutexView
  thread_view c ps = record { core = c; mutexes = ps }

  -- the parts of a view, and a view with one of them changed
  abbrev pub core_of : ThreadView B MutexView → CorePart B
  core_of v = v.core

  abbrev pub put_core : ThreadView B MutexView → CorePart B → ThreadView B MutexView
  put_core v c = thread_view c v.mutexes

  abbrev pub mutex_of : ℕ → ThreadView B MutexView → MutexView
  mutex_of i v = part_in (newcomer 0) i v.mutexes

  abbrev pub put_mutex : ℕ → ThreadView B MutexView → MutexView → ThreadView B MutexView
  put_mutex i v p = thread_view v.core (put_in (newcomer 0) i v.mutexes p)

  -- a thread of n that has done nothing, beside m mutexes
  abbrev pub newcomer_view : History → B → ℕ → ℕ → ThreadView B MutexView
  newcomer_view h first m n = thread_view (newcomer_part h first) (replicate m (newcomer n))

  abbrev pub all_threads : History → B → ℕ → ℕ → Hand (ThreadView B MutexView)
  all_threads h first m n = hand_from 0 (replicate n (newcomer_view h first m n))

-- each mutex word has the same rule
abbrev pub MutexParts : ℕ → ℕ → List MutexView → Type 0
MutexParts i = MutexPart

-- what a tie may read: the mutex's number, the core's word, slot and parts of the views, and the mutex's word
abbrev pub Tie : Type 0 → Type 0 → Type 1
Tie S B = ℕ → ℕ → Homes S → List (CorePart B) → ℕ → Type 0

-- The core's part at the word 0, a mutex's part at each further word, and a tie for each mutex
abbrev pub ThreadRule : {S B : Type 0} → (S → History) → (B → S → Type 0) → Tie S B → B → ℕ → List ℕ → Homes S → List (ThreadView B MutexView) → Type 0
ThreadRule past comes tie first m = Tabled (CoreRuled past comes first) MutexParts tie core_of mutex_of m

abbrev pub MachineRule : {S B : Type 0} → (S → History) → (B → S → Type 0) → Tie S B → B → ℕ → State (Option S) (Hand (ThreadView B MutexView)) → Type 0
MachineRule past comes tie first m = Dealt (ThreadRule past comes tie first m)

-- All that a step on the lock says of the core's part of a view. The rest of the view stays
abbrev pub on_core : {S B : Type 0} → Tells (Option S) (CorePart B) → Tells (Option S) (ThreadView B MutexView)
on_core tells = Within core_of put_core tells
