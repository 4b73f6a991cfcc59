-- The threads in the queues of the elements.
use Rattle.std.specs.Prelude.{ℕ, Bool, false, ◌≡◌, ◌==◌, List, [], Some, map, replicate, slice_get}
use Rattle.std.specs.List.{list_any}
use Rattle.std.specs.Option.{option_map_or}
use Rattle.evl_base.specs.declared.reply.Reply.{Reply}
use Rattle.evl_sync.specs.Queues.{stands_in}
use Rattle.evl_sync.specs.Semaphores.{Semaphore, IsSoundSemaphore}
use Rattle.evl_sync.specs.FlagGroups.{FlagGroup, IsSoundGroup}
use Rattle.evl_base.specs.declared.way.Way.{Way}
use Rattle.evl_xbuf.specs.Xbufs.{Xbuf, IsSoundXbuf, stream}
use Rattle.evl_mutex.specs.Mutexes.{Mutex as MutexRecorded, is_waited_for_by}
use Rattle.evl_mutex.specs.Owners.{Owners, IsSound}
use Rattle.evl_kernel.specs.declared.waits.Awaited.{Awaited}
use Rattle.evl_kernel.specs.declared.waits.Awaited.TheVariants.{Sem, Flags, Writing, Reading, Mutex}
use Rattle.evl_base.specs.Limits.{thread_limit}
use Rattle.evl_kernel.specs.state.States.{Elements}

abbrev pub in_sem : Semaphore → ℕ → Bool
in_sem q thread = stands_in (λ w. w.thread) thread q.waiters

abbrev pub in_flags : FlagGroup → ℕ → Bool
in_flags f thread = stands_in (λ w. w.thread) thread f.waiters

-- to write into a way of a cross-buffer, and to read from it
abbrev pub in_writers : Way → Xbuf → ℕ → Bool
in_writers way x thread = stands_in (λ w. w.thread) thread (stream x way).writers

abbrev pub in_readers : Way → Xbuf → ℕ → Bool
in_readers way x thread = stands_in (λ r. r.thread) thread (stream x way).readers

abbrev pub in_mutex : MutexRecorded → ℕ → Bool
in_mutex m thread = is_waited_for_by thread m

-- of the n-th of a kind
abbrev pub stands_at : {X : Type 0} → (X → ℕ → Bool) → List X → ℕ → ℕ → Bool
stands_at has xs n thread = option_map_or (λ x. has x thread) (slice_get xs n) false

-- the thread is in the queue of this element
abbrev pub stands_for : Elements → Awaited → ℕ → Bool
stands_for e (Sem id) thread = stands_at in_sem e.sems id.0 thread
stands_for e (Flags id) thread = stands_at in_flags e.flags id.0 thread
stands_for e (Writing id way) thread = stands_at (in_writers way) e.xbufs id.0 thread
stands_for e (Reading id way) thread = stands_at (in_readers way) e.xbufs id.0 thread
stands_for e (Mutex id) thread = stands_at in_mutex e.mutexes id.0 thread

-- the queue of the n-th of a kind
abbrev pub queue_at : {X : Type 0} → (X → List ℕ) → List X → ℕ → List ℕ
queue_at queue xs n = option_map_or queue (slice_get xs n) []

-- who is in the queue of this element, the first one at its head
abbrev pub queue_of : Elements → Awaited → List ℕ
queue_of e (Sem id) = queue_at (λ q. map (λ w. w.thread) q.waiters) e.sems id.0
queue_of e (Flags id) = queue_at (λ f. map (λ w. w.thread) f.waiters) e.flags id.0
queue_of e (Writing id way) = queue_at (λ x. map (λ w. w.thread) (stream x way).writers) e.xbufs id.0
queue_of e (Reading id way) = queue_at (λ x. map (λ r. r.thread) (stream x way).readers) e.xbufs id.0
queue_of e (Mutex id) = queue_at (λ m. map (λ w. w.thread) m.waiters) e.mutexes id.0

-- the thread is among those who are served
abbrev pub is_served : ℕ → List (ℕ × Reply) → Bool
is_served thread served = list_any (λ one. one.0 == thread) served

-- the recorded owners; what is known of them speaks of no rank
abbrev pub owners_in : Elements → Owners
owners_in e = record { base = replicate thread_limit 0; mutexes = e.mutexes }

-- what is known of each element
pub record AreSound (e : Elements) : Type 0 where
  -- a semaphore counts 0 where somebody waits for it; greater ranks stand first in its queue, and no thread is there twice
  pub sems : (n : ℕ) (q : Semaphore) → slice_get e.sems n ≡ Some q → IsSoundSemaphore q
  -- nobody waits for bits that are there; its queue likewise
  pub flags : (n : ℕ) (f : FlagGroup) → slice_get e.flags n ≡ Some f → IsSoundGroup f
  -- nobody waits who can be served, and of a way only one queue has anybody
  pub xbufs : (n : ℕ) (x : Xbuf) → slice_get e.xbufs n ≡ Some x → IsSoundXbuf x
  -- nobody waits for itself along recorded owners; an owner is recorded where somebody waits, and else at a ceiling alone
  pub mutexes : IsSound (owners_in e)
