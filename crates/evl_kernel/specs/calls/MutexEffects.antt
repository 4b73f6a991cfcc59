-- The mutexes as each call on a mutex leaves them before settling, and the waits that ended by getting one.
use Rattle.std.specs.Prelude.{◌≡◌, ◌≢◌, ◌<◌, ℕ, List, ◌==◌, ◌||◌, Bool, true, false, Option, Some, None, Result, Ok, slice_get}
use Rattle.std.specs.Option.{option_map_or}
use Rattle.evl_base.specs.Board.{board_fits}
use Rattle.evl_base.specs.declared.call.Call.TheVariants.{Claim, Release, Raise, Finish}
use Rattle.evl_base.specs.declared.numbers.MutexId.{MutexId}
use Rattle.evl_base.specs.declared.numbers.ThreadId.{ThreadId}
use Rattle.evl_base.specs.declared.play.Play.{Play}
use Rattle.evl_base.specs.declared.refusal.Refusal.{Refusal}
use Rattle.evl_base.specs.declared.reply.Reply.{Reply}
use Rattle.evl_mutex.specs.Mutexes.{Mutex as MutexRecorded, claimed_mutex, has_ceiling, is_open_to, raised_mutex, released_mutex}
use Rattle.evl_kernel.specs.state.States.{State}
use Rattle.evl_kernel.specs.calls.Mutexes.{handed_told}
use Rattle.evl_kernel.specs.waiting.Waits.{wait_at}
use Rattle.evl_kernel.specs.calls.ThreadCalls.{rank_of}
use Rattle.evl_kernel.specs.calls.Serving.{answer}
use Rattle.evl_sched.specs.Threads.{is_attached}
use Rattle.evl_kernel.specs.histories.Histories.{History, IsLegal, Step}
use Rattle.evl_kernel.specs.histories.MutexRests.{got_it}

abbrev pub record_at : State → ℕ → Option MutexRecorded
record_at s n = slice_get s.elements.mutexes n

-- the thread's unfinished wait for mutex n ended by getting it
abbrev pub has_got : State → ℕ → ℕ → Bool
has_got s n t = got_it n (wait_at s t)

-- of mutex n this was recorded, and then that; of the others the same
pub record Changes (n : ℕ) (old : State) (was is : MutexRecorded) (new : State) : Type 0 where
  pub there : record_at old n ≡ Some was
  pub now : record_at new n ≡ Some is
  pub others : (j : ℕ) → j ≢ n → record_at new j ≡ record_at old j

abbrev pub GotTheSame : State → State → Type 0
GotTheSame old new = (j t : ℕ) → has_got new j t ≡ has_got old j t

-- an accepted claim: the caller waits for the mutex by its rank, and names who owns it
pub record ClaimLeaves (old : State) (caller n owner : ℕ) (new : State) : Type 0 where
  pub was : MutexRecorded
  pub changes : Changes n old was (claimed_mutex was (record { thread = caller; rank = rank_of old caller }) owner) new
  pub got : GotTheSame old new

-- an accepted release: the first waiter, if there is one, gets the mutex
pub record ReleaseLeaves (old : State) (n : ℕ) (reply : Reply) (new : State) : Type 0 where
  pub was : MutexRecorded
  pub told : reply ≡ handed_told (released_mutex was)
  pub changes : Changes n old was (released_mutex was).after new
  pub got : (t : ℕ) → has_got new n t ≡ (option_map_or (λ next. next == t) (released_mutex was).next false || has_got old n t)
  pub elsewhere : (j t : ℕ) → j ≢ n → has_got new j t ≡ has_got old j t

pub record RaiseLeaves (old : State) (n thread : ℕ) (new : State) : Type 0 where
  pub was : MutexRecorded
  pub ceiling : has_ceiling was ≡ true
  pub changes : Changes n old was (raised_mutex was thread) new
  pub got : GotTheSame old new

-- the end of a wait: of the mutexes all stays, and its thread has got none any more
pub record FinishLeaves (old : State) (thread : ℕ) (new : State) : Type 0 where
  pub records : (j : ℕ) → record_at new j ≡ record_at old j
  pub own : (j : ℕ) → has_got new j thread ≡ false
  pub others : (j t : ℕ) → t ≢ thread → has_got new j t ≡ has_got old j t

pub record MutexCallsLeave (s : State) (caller : ℕ) : Type 0 where
  pub claim : (id : MutexId) (owner : ThreadId) (until : Option ℕ) (reply : Reply) (new : State) → answer s caller (Claim id owner until) ≡ Ok (reply, new) → ClaimLeaves s caller id.0 owner.0 new
  pub release : (id : MutexId) (reply : Reply) (new : State) → answer s caller (Release id) ≡ Ok (reply, new) → ReleaseLeaves s id.0 reply new
  pub raise : (id : MutexId) (reply : Reply) (new : State) → answer s caller (Raise id) ≡ Ok (reply, new) → RaiseLeaves s id.0 caller new
  pub finish : (keep : Bool) (reply : Reply) (new : State) → answer s caller (Finish keep) ≡ Ok (reply, new) → FinishLeaves s caller new

-- in every legal history over a board within its limits, by any callers
abbrev pub MutexCallsChange : Type 0
MutexCallsChange = (h : History) → IsLegal h → board_fits h.board ≡ true → (caller : ℕ) → MutexCallsLeave h.state caller

-- a release is accepted where no other owner is recorded, and a raise at a ceiling by an attached thread where no owner is
pub record MutexCallsPass (s : State) (caller : ℕ) : Type 0 where
  pub release : (id : MutexId) (m : MutexRecorded) (r : Result Reply Refusal) (plays : List Play) (new : State) → record_at s id.0 ≡ Some m → is_open_to caller m ≡ true
      → Step s caller (Release id) r plays new → (reply : Reply) × (r ≡ Ok reply)
  pub raise : (id : MutexId) (m : MutexRecorded) (r : Result Reply Refusal) (plays : List Play) (new : State) → record_at s id.0 ≡ Some m → has_ceiling m ≡ true → m.owner ≡ None → is_attached s.sched caller ≡ true
      → Step s caller (Raise id) r plays new → (reply : Reply) × (r ≡ Ok reply)

-- of a thread that is on the board and has no unfinished wait
abbrev pub MutexCallsAreAccepted : Type 0
MutexCallsAreAccepted = (s : State) (caller : ℕ) → caller < s.threads → wait_at s caller ≡ None → MutexCallsPass s caller
