-- A mutex of the kernel: the steps of its record, and what they mean to the threads that wait for it.
use Rattle.std.specs.Prelude.{ℕ, List, [], Ok, Err, is_some, option_map, if◌then◌else◌}
use Rattle.evl_base.specs.declared.refusal.Refusal.TheVariants.{Busy, Invalid, NotOwner}
use Rattle.evl_base.specs.declared.numbers.ThreadId.{ThreadId}
use Rattle.evl_base.specs.declared.reply.Reply.{Reply}
use Rattle.evl_base.specs.declared.reply.Reply.TheVariants as reply
use Rattle.evl_mutex.specs.declared.waiter.Waiter.{Waiter}
use Rattle.evl_mutex.specs.Mutexes as recorded
use Rattle.evl_mutex.specs.Mutexes.{Mutex, Handing, has_ceiling, is_open_to}
use Rattle.evl_kernel.specs.calls.Effects.{Answered, done}
use Rattle.evl_kernel.specs.calls.Semaphores.{one_served}

pub data MutexStep : Type 0 where
  -- a thread waits, and names the owner
  claim : Waiter → ℕ → MutexStep
  -- a thread hands it on to the first waiter
  release : ℕ → MutexStep
  -- a thread has its ceiling
  raise : ℕ → MutexStep
  -- a waiter leaves, as its deadline fell due
  drop : ℕ → MutexStep

abbrev pub thread_named : ℕ → ThreadId
thread_named thread = record { 0 = thread }

-- the next owner, and whether more wait
abbrev pub handed_told : Handing → Reply
handed_told h = reply.Handed (option_map thread_named h.next) h.more

-- rule: A thread that got a mutex by a release no longer waits; it inherits from those that do.
--   clauses: Owners::release
--   rows: owners_1
-- refusals: calls on elements
--   also: Semaphores.{try_get, put_count, peek}; FlagGroups.{try_take, post_refusal}; Xbufs.{try_write, try_read};
--   OwnerCalls.raiser_refusal; Elements.element
abbrev pub mutex : Mutex → MutexStep → Answered Mutex
mutex m (claim w owner) = Ok (reply.Begun, recorded.claimed_mutex m w owner)
mutex m (release thread) = if is_open_to thread m then Ok (handed_told (recorded.released_mutex m), (recorded.released_mutex m).after) else Err NotOwner
mutex m (raise thread) = if has_ceiling m then (if is_some m.owner then Err Busy else done (recorded.raised_mutex m thread)) else Err Invalid
mutex m (drop thread) = done (recorded.drop_waiter thread m)

-- whose wait a step ends, and with what
abbrev pub mutex_wakes : Mutex → MutexStep → List (ℕ × Reply)
mutex_wakes m (release thread) = one_served (recorded.released_mutex m).next
mutex_wakes m _ = []
