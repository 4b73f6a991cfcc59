-- A kernel as contracts see it.
use Rattle.std.specs.Prelude.{ℕ, ⊤, IsTrue, ◌≡◌, ◌≤◌, Bool, true, false, List, [], length, map, Result, Ok, Err}
use Rattle.evl_base.specs.declared.refusal.Refusal.{Refusal}
use Rattle.evl_base.specs.declared.refusal.Refusal.TheVariants.{NoMemory, HistoryFull, CoreBusy, HoldsStax, Raced}
use Rattle.evl_base.specs.declared.call.Call.{Call}
use Rattle.evl_base.specs.declared.reply.Reply.{Reply}
use Rattle.evl_base.specs.declared.play.Play.{Play}
use Rattle.evl_base.specs.declared.entry.Entry.{Entry}
use Rattle.evl_kernel.specs.state.Limits.{play_limit}
use Rattle.evl_kernel.specs.state.States.{State}
use Rattle.evl_kernel.specs.calls.Effects.{Effect}
use Rattle.evl_kernel.specs.calls.Serving.{serve_call, answer}
use Rattle.evl_kernel.specs.histories.Histories.{History, Extends, opened_kernel}
use Rattle.evl_base.specs.declared.board.Board.{Board}
use Rattle.evl_pipeline.specs.declared.plan.Plan.{Plan}
use Rattle.evl_pipeline.specs.Lines as lines
use Rattle.evl_clock.specs.Clocks as clocks
use Rattle.evl_kernel.specs.state.Callbacks.{Whereabouts, AreFilled}

-- rule: Each reader gives the state at the history's end; false, 0 or nobody outside the board.
--   also: States.date; ThreadCalls.rank_of; Waits.{wait_at, is_waiting, has_ended, has_timed_out}; Standing.queue_of;
--   MutexEffects.record_at
--   clauses: Kernel::{allowance, earliest_date, pending, stalled, spurious, unhandled, timer, stage, finished,
--   timed_out, waiters, picked, rank, policy, awaited, count, bits, waiter, ready_threads, history, plays, now, ready,
--   there}
--   rows: readers_tell_how_a_machine_stands
pub record KernelView (C : Type 0) : Type 0 where
  pub history : History
  -- where the callbacks are
  pub callbacks : Whereabouts C
  -- the most entries that the history may have
  pub limit : ℕ
  -- how many calls find the room for their entries, plays and bytes made already
  pub room : ℕ

-- the two refusals that make no entry
abbrev pub refusal_enters : Refusal → Bool
refusal_enters NoMemory = false
refusal_enters HistoryFull = false
refusal_enters _ = true

abbrev pub makes_entry : Result Reply Refusal → Bool
makes_entry (Ok reply) = true
makes_entry (Err refusal) = refusal_enters refusal

-- a refusal that the kernel may answer: none of those of the core's lock, of a stax or of its gate
abbrev pub IsKernelRefusal : Refusal → Type 0
IsKernelRefusal CoreBusy = ⊥
IsKernelRefusal HoldsStax = ⊥
IsKernelRefusal (Raced first second) = ⊥
IsKernelRefusal _ = ⊤

abbrev pub IsKernelAnswer : Result Reply Refusal → Type 0
IsKernelAnswer (Ok reply) = ⊤
IsKernelAnswer (Err refusal) = IsKernelRefusal refusal

-- an answer with an entry
abbrev pub IsAnswer : Result Reply Refusal → Type 0
IsAnswer result = IsTrue (makes_entry result) × IsKernelAnswer result

-- the entry of a call that made these plays
abbrev pub entry_of : ℕ → Call → Result Reply Refusal → List Play → Entry
entry_of caller asked reply plays = record { caller = record { 0 = caller }; call = asked; reply = reply; plays = length plays }

-- rule: A call makes at most 4736 plays.
--   also: Settled.Performs; Limits.play_limit
--   clauses: Kernel::apply: entry
--   rows: many_plays; one_call_makes_the_most_plays
-- New is old with just this call's entry after it, and the plays that it made, which are few.
pub record Adds (old : History) (caller : ℕ) (asked : Call) (reply : Result Reply Refusal) (plays : List Play) (new : History) : Type 0 where
  pub extends : Extends old new (entry_of caller asked reply plays) plays
  pub few : length plays ≤ play_limit

abbrev pub AddsEntry : History → ℕ → Call → Result Reply Refusal → History → Type 0
AddsEntry old caller asked reply new = (plays : List Play) × Adds old caller asked reply plays new

-- the result and the new records are this effect on the old ones
abbrev pub Has : State → Effect → Result Reply Refusal → State → Type 0
Has old effect (Ok reply) new = effect ≡ Ok (reply, new)
Has old effect (Err refusal) new = (effect ≡ Err refusal) × (new ≡ old)

-- apart from the refusals that all calls have
abbrev pub Served : State → ℕ → Call → Result Reply Refusal → State → Type 0
Served old caller asked result new = Has old (serve_call old caller asked) result new

abbrev pub Answers : State → ℕ → Call → Result Reply Refusal → State → Type 0
Answers old caller asked result new = Has old (answer old caller asked) result new

-- a kernel that was just made: every callback is in its bank place
pub record IsOpened {C : Type 0} (declared : C → ℕ) (plan : C → Plan) (board : Board) (bank : List C) (limit : ℕ) (k : KernelView C) : Type 0 where
  pub board_is : k.history.board ≡ board
  pub bank_is : k.history.bank ≡ map (λ callback. record { kinds = declared callback; plan = plan callback }) bank
  pub state : k.history.state ≡ opened_kernel k.history
  pub entries : k.history.entries ≡ []
  pub plays : k.history.plays ≡ []
  pub limit_is : k.limit ≡ limit
  pub filled : AreFilled declared plan bank k.callbacks.bank
  pub nothing_out : k.callbacks.lines ≡ lines.opening
  pub no_timers : k.callbacks.clock ≡ clocks.opening board.threads
