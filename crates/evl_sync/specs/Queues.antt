-- Queues of waiting threads.
use Rattle.std.specs.Prelude.{ℕ, ◌≡◌, ◌≤◌, ◌==◌, nat_lt, not, Bool, true, false, ◌<◌, List, [], ◌∷◌, Option, Some, None, filter, option_map, if◌then◌else◌}
use Rattle.std.specs.List.{list_any, AllByRecursion}
use Rattle.evl_base.specs.Limits.{thread_limit}
use Rattle.evl_base.specs.declared.numbers.ThreadId.{ThreadId}

-- rule: A queue is ordered by the effective rank at the beginning of the wait, the higher first, then by arrival; no
--   later rank moves a waiter.
--   also: Queues.rest_of; Waiter
--   clauses: WaitQueue::{push, head, pop, remove, len, new, get}
--   rows: queue_order; waits_1; greater_ranks_go_first
-- after those of its rank or a greater one, before the others
abbrev pub enqueued_by : {A : Type 0} → (A → ℕ) → A → List A → List A
enqueued_by rank w [] = w ∷ []
enqueued_by rank w (v ∷ vs) = if nat_lt (rank v) (rank w) then w ∷ v ∷ vs else v ∷ enqueued_by rank w vs

-- without this thread
abbrev pub dropped_by : {A : Type 0} → (A → ℕ) → ℕ → List A → List A
dropped_by thread t ws = filter (λ w. not (thread w == t)) ws

abbrev pub stands_in : {A : Type 0} → (A → ℕ) → ℕ → List A → Bool
stands_in thread t ws = list_any (λ w. thread w == t) ws

abbrev pub is_nobody : {A : Type 0} → List A → Bool
is_nobody [] = true
is_nobody (w ∷ ws) = false

abbrev pub first_of : {A : Type 0} → (A → ℕ) → List A → Option ℕ
first_of thread [] = None
first_of thread (w ∷ ws) = Some (thread w)

abbrev pub rest_of : {A : Type 0} → List A → List A
rest_of [] = []
rest_of (w ∷ ws) = ws

abbrev pub number_of : Option ThreadId → Option ℕ
number_of thread = option_map (λ t. t.0) thread

-- rule: A thread is in a queue at most once, and ranks fall along it.
--   clauses: ArrivalQueue::len: kept; WaitQueue::len: kept; WaitQueue::pop: kept
--   rows: dropped_waiter
-- the ranks fall, and each thread is there once
abbrev pub AreRanked : {A : Type 0} → (A → ℕ) → (A → ℕ) → List A → Type 0
AreRanked thread rank [] = Unit {0}
AreRanked thread rank (w ∷ ws) = AllByRecursion (λ v. rank v ≤ rank w) ws × (stands_in thread (thread w) ws ≡ false) × AreRanked thread rank ws

-- what is known of a queue of a board's threads
pub record IsKept {A : Type 0} (thread rank : A → ℕ) (ws : List A) : Type 0 where
  pub ranked : AreRanked thread rank ws
  pub few : (t : ℕ) → stands_in thread t ws ≡ true → t < thread_limit
