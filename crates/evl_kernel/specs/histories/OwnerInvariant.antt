-- The laws of recorded owners, and of those who wait for mutexes, in every legal history.
use Rattle.std.specs.Prelude.{ℕ, ◌≡◌, ◌||◌, Bool, true, false, Some, is_some, slice_get}
use Rattle.evl_base.specs.Board.{board_fits}
use Rattle.evl_mutex.specs.Queues.{is_nobody}
use Rattle.evl_mutex.specs.Mutexes.{Mutex, has_ceiling, is_owned_by, is_waited_for_by}
use Rattle.evl_mutex.specs.Owners.{IsRingFree}
use Rattle.evl_mutex.specs.Ranks.{IsEffective}
use Rattle.evl_sched.specs.Threads.{base_of, is_attached}
use Rattle.evl_kernel.specs.state.States.{State}
use Rattle.evl_kernel.specs.calls.ThreadCalls.{rank_of}
use Rattle.evl_kernel.specs.waiting.Standing.{owners_in}
use Rattle.evl_kernel.specs.histories.Histories.{History, IsLegal}

-- the thread is the recorded owner of the mutex, or waits for it
abbrev pub is_recorded : Mutex → ℕ → Bool
is_recorded m thread = is_owned_by thread m || is_waited_for_by thread m

pub record OwnersAreProper (s : State) : Type 0 where
  -- nobody waits for itself along recorded owners
  pub ring_free : IsRingFree (owners_in s.elements)
  -- a mutex for which somebody waits has a recorded owner
  pub claimed : (n : ℕ) (m : Mutex) → slice_get s.elements.mutexes n ≡ Some m → is_nobody m.waiters ≡ false → is_some m.owner ≡ true
  -- one for which nobody waits has one only where it has a ceiling
  pub raised : (n : ℕ) (m : Mutex) → slice_get s.elements.mutexes n ≡ Some m → is_nobody m.waiters ≡ true → is_some m.owner ≡ true → has_ceiling m ≡ true
  -- the recorded owner of a mutex is attached, and so is everybody who waits for it
  pub attached : (n : ℕ) (m : Mutex) → slice_get s.elements.mutexes n ≡ Some m → (thread : ℕ) → is_recorded m thread ≡ true → is_attached s.sched thread ≡ true
  -- the rank of a thread is the greatest that counts for it: its base rank, the ceilings that are recorded for it, and the
  -- base ranks of all who wait for it, step by step along recorded owners
  pub effective : (thread : ℕ) → IsEffective (base_of s.sched) s.elements.mutexes thread (rank_of s thread)

-- after each call, over a board within its limits
abbrev pub OwnersStayProper : Type 0
OwnersStayProper = (h : History) → IsLegal h → board_fits h.board ≡ true → OwnersAreProper h.state
