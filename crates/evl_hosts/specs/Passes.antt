-- The passes that a caller keeps, in the order in which it got them.
use Rattle.std.specs.Prelude.{◌≡◌, ℕ, ◌==◌, Bool, List, [], ◌∷◌, Some, position, slice_get, Result, Ok, Err}
use Rattle.std.specs.List.{remove}
use Rattle.evl_base.specs.declared.refusal.Refusal.{Refusal}
use Rattle.evl_base.specs.declared.reply.Reply.{Reply}
use Rattle.evl_base.specs.declared.reply.Reply.TheVariants.{Begun as begun, Done, TimedOut as timed_out}
use Rattle.evl_machine.specs.declared.locking.Begun.{Begun}
use Rattle.evl_machine.specs.declared.locking.Begun.TheVariants.{Locked as LockedNow, Waiting}
use Rattle.evl_machine.specs.declared.locking.Ended.{Ended}
use Rattle.evl_machine.specs.declared.locking.Ended.TheVariants.{Locked as LockedThen, TimedOut}
use Rattle.evl_words.specs.declared.gate.StaxPass.{StaxPass}
use Rattle.evl_words.specs.declared.mutex.MutexPass.{MutexPass}

-- a pass is of this mutex, or of this stax
abbrev pub is_of_mutex : ℕ → MutexPass → Bool
is_of_mutex mutex pass = pass.mutex.0 == mutex

abbrev pub is_of_stax : ℕ → StaxPass → Bool
is_of_stax stax pass = pass.gate.0 == stax

-- the first that passes a test is taken away
pub record TakesFirst {P : Type 0} (test : P → Bool) (old : List P) (pass : P) (new : List P) : Type 0 where
  pub place : ℕ
  pub first : position test old ≡ Some place
  pub there : slice_get old place ≡ Some pass
  pub rest : new ≡ remove old place

-- the passes that an answer brings
abbrev pub given : {P : Type 0} → Result P Refusal → List P
given (Ok pass) = pass ∷ []
given (Err refusal) = []

abbrev pub begun_given : Result Begun Refusal → List MutexPass
begun_given (Ok (LockedNow pass)) = pass ∷ []
begun_given _ = []

abbrev pub ended_given : Result Ended Refusal → List MutexPass
ended_given (Ok (LockedThen pass)) = pass ∷ []
ended_given _ = []

-- those that come back
abbrev pub back : {A P : Type 0} → Result A (Refusal × P) → List P
back (Ok done) = []
back (Err refused) = refused.1 ∷ []

-- what is answered of a try, of the beginning of a lock and of its end, as the kernel answers a call
abbrev pub locked_reply : {P : Type 0} → Result P Refusal → Result Reply Refusal
locked_reply (Ok pass) = Ok Done
locked_reply (Err refusal) = Err refusal

abbrev pub begun_reply : Result Begun Refusal → Result Reply Refusal
begun_reply (Ok (LockedNow pass)) = Ok Done
begun_reply (Ok Waiting) = Ok begun
begun_reply (Err refusal) = Err refusal

abbrev pub ended_reply : Result Ended Refusal → Result Reply Refusal
ended_reply (Ok (LockedThen pass)) = Ok Done
ended_reply (Ok TimedOut) = Ok timed_out
ended_reply (Err refusal) = Err refusal

-- what is answered where a pass was spent
abbrev pub spent : {A P : Type 0} → Result A (Refusal × P) → Result A Refusal
spent (Ok done) = Ok done
spent (Err refused) = Err refused.0

abbrev pub spent_reply : {P : Type 0} → Result (Unit {0}) (Refusal × P) → Result Reply Refusal
spent_reply (Ok _) = Ok Done
spent_reply (Err refused) = Err refused.0
