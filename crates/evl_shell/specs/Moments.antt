-- The moment of a run that a kernel shows.
use Rattle.std.specs.Prelude.{ℕ, ◌≡◌, ◌++◌, length, Bool, true, false, Option, Some, None, Result, Err, nat_lt, if◌then◌else◌}
use Rattle.evl_base.specs.declared.refusal.Refusal.{Refusal}
use Rattle.evl_base.specs.declared.refusal.Refusal.TheVariants.{NoMemory}
use Rattle.evl_base.specs.declared.reply.Reply.{Reply}
use Rattle.evl_kernel.specs.state.KernelViews.{KernelView}
use Rattle.evl_shell.specs.Runs.{Moment, Turn}

abbrev pub moment : {C : Type 0} → KernelView C → Moment
moment k = record { entries = length k.history.entries; state = k.history.state }

-- the kernel has made this turn
pub record Turns {C : Type 0} (old new : KernelView C) (turn : Turn) : Type 0 where
  pub after : moment new ≡ turn.after
  pub limit : new.limit ≡ old.limit
  pub plays : new.history.plays ≡ old.history.plays ++ turn.plays

-- and this is the number of the turn's entry, and its answer
pub record Tells {C : Type 0} (old new : KernelView C) (number : Option ℕ) (answer : Result Reply Refusal) (turn : Turn) : Type 0 where
  pub turns : Turns old new turn
  pub number_is : number ≡ turn.number
  pub answer_is : answer ≡ turn.answer

-- an answer that means want of memory
abbrev pub wants_memory : Result Reply Refusal → Bool
wants_memory (Err NoMemory) = true
wants_memory _ = false

-- the number of an entry that raised the count of entries, if one did
abbrev pub number_after : ℕ → ℕ → Option ℕ
number_after before count = if nat_lt before count then Some count else None
