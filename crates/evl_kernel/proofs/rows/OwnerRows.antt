-- Rows of mutexes, by computation: what each call answers and plays.
use Rattle.std.proofs.Common.{◌≡◌, ℕ, List, [], ◌∷◌, Some, None, Result, Ok, Err, true, false, refl}
use Rattle.evl_base.specs.declared.numbers.MutexId.{MutexId}
use Rattle.evl_base.specs.declared.numbers.ThreadId.{ThreadId}
use Rattle.evl_base.specs.declared.mutex_kind.MutexKind.{MutexKind}
use Rattle.evl_base.specs.declared.mutex_kind.MutexKind.TheVariants.{Normal, Ceiling}
use Rattle.evl_base.specs.declared.policy.Policy.TheVariants.{Fifo, Weak}
use Rattle.evl_base.specs.declared.stage.Stage.TheVariants.{Inband, Oob}
use Rattle.evl_base.specs.declared.refusal.Refusal.{Refusal}
use Rattle.evl_base.specs.declared.refusal.Refusal.TheVariants.{Busy, Deadlock, Invalid, NotOwner, Unknown, WrongStage}
use Rattle.evl_base.specs.declared.call.Call.{Call}
use Rattle.evl_base.specs.declared.call.Call.TheVariants.{Attach, Claim, Detach, Finish, Pick, Raise, RankOf, Release, SetPolicy, Tick}
use Rattle.evl_base.specs.declared.reply.Reply.{Reply}
use Rattle.evl_base.specs.declared.reply.Reply.TheVariants.{Begun, Chosen, Done, Handed, Number}
use Rattle.evl_base.specs.declared.play.Play.{Play}
use Rattle.evl_base.specs.declared.play.Play.TheVariants.{Clock, Deadline}
use Rattle.evl_pipeline.specs.Lines as lines
use Rattle.evl_clock.specs.Clocks as clocks
use Rattle.evl_clock.specs.Dues.{next_due}
use Rattle.evl_sched.specs.Threads as threads
use Rattle.evl_kernel.specs.state.States.{State}
use Rattle.evl_kernel.specs.state.Openings.{opening}
use Rattle.evl_kernel.specs.histories.Replays.{step_outcome}
use Rattle.evl_kernel.specs.settling.Settling.{next_move}
use Rattle.evl_kernel.specs.calls.ThreadCalls.{rank_by}
use Rattle.evl_kernel.specs.waiting.Beginnings.{waits_back}

-- the answers and plays of calls, each by its thread
abbrev replies : State → List (ℕ × Call) → List (Result Reply Refusal × List Play)
replies s [] = []
replies s ((caller, asked) ∷ calls) = let one = step_outcome s caller asked in (one.reply, one.plays) ∷ replies one.after calls

-- four threads, with these mutexes
abbrev start : List MutexKind → State
start mutexes =
    opening (record {
      threads = 4;
      sems = record { items = [] };
      flags = record { items = [] };
      xbufs = record { items = [] };
      mutexes = record { items = mutexes };
      groups = record { items = [] };
      staxes = record { items = [] };
    }) []

abbrev said : Reply → Result Reply Refusal × List Play
said reply = (Ok reply, [])

abbrev refused : Refusal → Result Reply Refusal × List Play
refused refusal = (Err refusal, [])

abbrev mutex : ℕ → MutexId
mutex n = record { 0 = n }

abbrev thread : ℕ → ThreadId
thread n = record { 0 = n }

inheritance_chain : replies (start (Normal ∷ Normal ∷ [])) (
    (1, Attach (Fifo 8) Oob) ∷ (2, Attach (Fifo 28) Oob) ∷ (3, Attach (Fifo 78) Oob) ∷ (2, Claim (mutex 0) (thread 1) None) ∷ (0, RankOf (thread 1))
    ∷ (3, Claim (mutex 1) (thread 2) (Some 100)) ∷ (0, RankOf (thread 1)) ∷ (0, RankOf (thread 2)) ∷ (1, Claim (mutex 1) (thread 2) None)
    ∷ (0, Tick 100) ∷ (0, RankOf (thread 1)) ∷ (0, RankOf (thread 2)) ∷ (0, Pick) ∷ []
    ) ≡ said Done ∷ said Done ∷ said Done ∷ said Begun ∷ said (Number 540) ∷ said Begun ∷ said (Number 590) ∷ said (Number 590) ∷ refused Deadlock
    ∷ (Ok Done, Clock ∷ Deadline (thread 3) ∷ []) ∷ said (Number 540) ∷ said (Number 540) ∷ said (Chosen (Some (thread 3))) ∷ []
unfolding next_move lines.opening clocks.opening next_due threads.opening rank_by waits_back
inheritance_chain = refl

owners_1 : replies (start (Normal ∷ [])) (
    (1, Attach (Fifo 8) Oob) ∷ (2, Attach (Fifo 28) Oob) ∷ (3, Attach (Fifo 78) Oob) ∷ (2, Claim (mutex 0) (thread 1) None) ∷ (3, Claim (mutex 0) (thread 1) None)
    ∷ (0, Release (mutex 0)) ∷ (1, Release (mutex 0)) ∷ (0, RankOf (thread 1)) ∷ (3, Finish false) ∷ (3, Release (mutex 0)) ∷ (2, Finish false) ∷ (2, Release (mutex 0)) ∷ []
    ) ≡ said Done ∷ said Done ∷ said Done ∷ said Begun ∷ said Begun ∷ refused NotOwner ∷ said (Handed (Some (thread 3)) true) ∷ said (Number 520) ∷ said Done
    ∷ said (Handed (Some (thread 2)) false) ∷ said Done ∷ said (Handed None false) ∷ []
unfolding next_move lines.opening clocks.opening next_due threads.opening rank_by waits_back
owners_1 = refl

owners_2 : replies (start (Ceiling 50 ∷ Normal ∷ [])) (
    (1, Attach (Fifo 10) Oob) ∷ (1, Raise (mutex 1)) ∷ (1, Raise (mutex 0)) ∷ (1, Raise (mutex 0)) ∷ (0, RankOf (thread 1)) ∷ (1, Detach) ∷ (1, Release (mutex 0)) ∷ (0, RankOf (thread 1)) ∷ []
    ) ≡ said Done ∷ refused Invalid ∷ said Done ∷ refused Busy ∷ said (Number 562) ∷ refused Busy ∷ said (Handed None false) ∷ said (Number 522) ∷ []
unfolding next_move lines.opening clocks.opening next_due threads.opening rank_by waits_back
owners_2 = refl

-- the refusals of a claim, in order; a caller in-band names itself
owners_3 : replies (start (Normal ∷ Normal ∷ [])) (
    (1, Attach (Fifo 10) Oob) ∷ (1, Claim (mutex 1) (thread 1) None) ∷ (1, Claim (mutex 2) (thread 9) None) ∷ (1, Claim (mutex 0) (thread 9) None) ∷ (1, Claim (mutex 0) (thread 2) None)
    ∷ (2, Attach (Fifo 20) Inband) ∷ (2, Claim (mutex 0) (thread 2) None) ∷ (2, Claim (mutex 0) (thread 1) None) ∷ (1, Claim (mutex 0) (thread 2) None)
    ∷ (3, Attach (Fifo 5) Oob) ∷ (3, Claim (mutex 0) (thread 1) None) ∷ (2, Raise (mutex 0)) ∷ (0, Raise (mutex 0)) ∷ (0, Raise (mutex 2)) ∷ []
    ) ≡ said Done ∷ refused Invalid ∷ refused Unknown ∷ refused Unknown ∷ refused Invalid ∷ said Done ∷ refused Invalid ∷ refused WrongStage ∷ said Begun
    ∷ said Done ∷ refused Invalid ∷ refused Invalid ∷ refused Invalid ∷ refused Unknown ∷ []
unfolding next_move lines.opening clocks.opening next_due threads.opening rank_by waits_back
owners_3 = refl

-- a weak thread that got the mutex stays out-of-band; a ceiling goes to the next, and a waiter's own isn't inherited
ceilings : replies (start (Ceiling 60 ∷ Normal ∷ [])) (
    (1, Attach (Fifo 10) Oob) ∷ (2, Attach (Weak 20) Oob) ∷ (1, Raise (mutex 0)) ∷ (2, Claim (mutex 0) (thread 1) None) ∷ (1, Release (mutex 0)) ∷ (0, RankOf (thread 1)) ∷ (0, RankOf (thread 2))
    ∷ (2, Finish false) ∷ (2, Claim (mutex 1) (thread 1) None) ∷ (0, RankOf (thread 1)) ∷ (1, SetPolicy (Fifo 3)) ∷ (0, RankOf (thread 1)) ∷ []
    ) ≡ said Done ∷ said Done ∷ said Done ∷ said Begun ∷ said (Handed (Some (thread 2)) false) ∷ said (Number 522) ∷ said (Number 572) ∷ said Done ∷ said Begun ∷ said (Number 522)
    ∷ said Done ∷ said (Number 515) ∷ []
unfolding next_move lines.opening clocks.opening next_due threads.opening rank_by waits_back
ceilings = refl
