-- One semaphore by itself: its count and its waiters.
use Rattle.std.specs.Prelude.{ℕ, ◌≡◌, ◌≤◌, ◌+◌, ◌-◌, ◌==◌, nat_lt, min, Bool, true, false, List, [], ◌∷◌, length, Option, Some, None, Result, Ok, Err, ℤ, pos, neg_ℤ, if◌then◌else◌}
use Rattle.evl_base.specs.declared.refusal.Refusal.{Refusal}
use Rattle.evl_base.specs.declared.refusal.Refusal.TheVariants.{Again, Range}
use Rattle.evl_sync.specs.declared.waiter.Waiter.{Waiter}
use Rattle.evl_sync.specs.Queues.{enqueued_by, dropped_by, is_nobody, IsKept}

pub record Semaphore : Type 0 where
  pub count : ℕ
  pub waiters : List Waiter

-- with this count, or the greatest where it is greater
abbrev pub opened_semaphore : ℕ → Semaphore
opened_semaphore count = record { count = min count 2147483647; waiters = [] }

-- rule: A refused call on a semaphore or a flag group changes nothing.
--   also: FlagGroups.{try_take, post}
--   clauses: Sem::try_get: refused; Sem::put: refused; FlagGroup::try_take: refused; FlagGroup::post: refused;
--   FlagGroup::begin_take: refused; FlagGroup::post_telling: untold
-- rule: `try_get` lowers the count, and is `Again` at 0.
--   rows: first_semaphore; waits_1; semaphore_path_2
-- refusals: Sem::try_get
--   order: Again
-- lowers the count
abbrev pub try_get : Semaphore → Result (Unit {0} × Semaphore) Refusal
try_get q = if q.count == 0 then Err Again else Ok (tt, record q { count = q.count - 1 })

abbrev pub put_before : Semaphore → List Waiter → Result (Option ℕ × Semaphore) Refusal
put_before q [] = if nat_lt q.count 2147483647 then Ok (None, record q { count = q.count + 1 }) else Err Range
put_before q (w ∷ ws) = Ok (Some w.thread, record q { waiters = ws })

-- rule: `put` releases the first waiter, else raises the count; at the maximum it is `Range`.
--   rows: waits_1; first_semaphore; greatest_count; a_put_releases_the_greater_rank; semaphore_path_1;
--   a_count_has_its_bounds
-- rule: A raise is a put where nobody waits and the count may rise; it says whether it was, and else changes nothing.
--   clauses: Sem::raise
-- refusals: Sem::put
--   order: Range
-- releases the head waiter, and says whom, else raises the count up to its maximum
abbrev pub put_count : Semaphore → Result (Option ℕ × Semaphore) Refusal
put_count q = put_before q q.waiters

-- rule: `peek` is the count, or minus the number of waiters.
--   rows: waits_1; first_semaphore
-- the count, or minus the number of waiters where there are any
abbrev pub peek : Semaphore → ℤ
peek q = if is_nobody q.waiters then pos q.count else neg_ℤ (pos (length q.waiters))

-- rule: A wait that can be served at once leaves the queue as it was. Each call is one step of the semaphore's machine.
--   also: FlagGroups.begin_take
--   clauses: Sem::{new, try_get, put, begin_get, drop_waiter, peek, waiter}
--   rows: served_at_once; past_waiters
-- whether the thread is served at once; else it waits
abbrev pub begin_get : Waiter → Semaphore → Bool × Semaphore
begin_get w q =
    if q.count == 0 then (false, record q { waiters = enqueued_by (λ v. v.rank) w q.waiters })
    else (true, record q { count = q.count - 1 })

abbrev pub drop_waiter : ℕ → Semaphore → Semaphore
drop_waiter thread q = record q { waiters = dropped_by (λ w. w.thread) thread q.waiters }

-- the count is 0 where somebody waits, and never above its maximum
pub record IsKeptSemaphore (count : ℕ) (waiters : List Waiter) : Type 0 where
  pub rests : is_nobody waiters ≡ false → count ≡ 0
  pub few : count ≤ 2147483647

-- rule: A semaphore's count is at most 2,147,483,647, and 0 while somebody waits.
--   clauses: Sem::peek; Sem::put: sound
-- what is known of a semaphore as a whole
pub record IsSoundSemaphore (q : Semaphore) : Type 0 where
  pub count : IsKeptSemaphore q.count q.waiters
  pub queue : IsKept (λ w. w.thread) (λ w. w.rank) q.waiters
