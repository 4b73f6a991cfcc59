-- A semaphore of the kernel: its steps, and what they mean to the threads that wait for it.
use Rattle.std.specs.Prelude.{ℕ, List, [], ◌∷◌, Option, Some, None, Ok, if◌then◌else◌}
use Rattle.evl_base.specs.declared.reply.Reply.{Reply}
use Rattle.evl_base.specs.declared.reply.Reply.TheVariants as reply
use Rattle.evl_sync.specs.declared.waiter.Waiter.{Waiter}
use Rattle.evl_sync.specs.Queues.{first_of}
use Rattle.evl_sync.specs.Semaphores as sem
use Rattle.evl_sync.specs.Semaphores.{Semaphore}
use Rattle.evl_kernel.specs.calls.Effects.{Answered, reply_by}

pub data SemStep : Type 0 where
  -- lowers the count
  get : SemStep
  -- releases the first waiter, or else raises the count, up to its maximum
  put : SemStep
  -- gives the count, or minus the number of waiters
  peek : SemStep
  -- lowers the count, or else the thread waits
  begin : Waiter → SemStep
  -- a waiter leaves, as its deadline fell due
  drop : ℕ → SemStep

-- rule: A semaphore is as in `evl_sync`.
--   rows: first_semaphore; waits_1; waiters_for_one_semaphore
abbrev pub semaphore : Semaphore → SemStep → Answered Semaphore
semaphore q get = reply_by (λ u. reply.Done) (sem.try_get q)
semaphore q put = reply_by (λ u. reply.Done) (sem.put_count q)
semaphore q peek = Ok (reply.Count (sem.peek q), q)
semaphore q (begin w) = Ok (reply.Begun, (sem.begin_get w q).1)
semaphore q (drop thread) = Ok (reply.Done, sem.drop_waiter thread q)

-- rule: A wait ends with `Done` (semaphore, write, mutex), the bits taken, the bytes read, or `TimedOut`.
--   also: FlagGroups.all_served; CrossBuffers.service_told; Mutexes.mutex_wakes
--   rows: waits_1; flag_waiters
-- who was served, if anybody was
abbrev pub one_served : Option ℕ → List (ℕ × Reply)
one_served None = []
one_served (Some thread) = (thread, reply.Done) ∷ []

abbrev pub head_served : List Waiter → List (ℕ × Reply)
head_served ws = one_served (first_of (λ w. w.thread) ws)

-- whose waits a step ends, and with what
abbrev pub sem_wakes : Semaphore → SemStep → List (ℕ × Reply)
sem_wakes q put = head_served q.waiters
sem_wakes q _ = []

-- what a wait that begins is served with at once, if it is
abbrev pub sem_serves : Semaphore → SemStep → Option Reply
sem_serves q (begin w) = if (sem.begin_get w q).0 then Some reply.Done else None
sem_serves q _ = None
