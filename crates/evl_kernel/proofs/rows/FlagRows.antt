-- Rows of flag groups, by computation: what each call answers and plays.
use Rattle.std.proofs.Common.{◌≡◌, ℕ, List, [], ◌∷◌, Some, None, Result, Ok, Err, true, false, refl}
use Rattle.evl_base.specs.declared.numbers.FlagId.{FlagId}
use Rattle.evl_base.specs.declared.policy.Policy.TheVariants.{Fifo}
use Rattle.evl_base.specs.declared.stage.Stage.TheVariants.{Inband, Oob}
use Rattle.evl_base.specs.declared.take.Take.TheVariants.{Any, Of, Exact}
use Rattle.evl_base.specs.declared.refusal.Refusal.{Refusal}
use Rattle.evl_base.specs.declared.refusal.Refusal.TheVariants.{Again, Busy, Invalid, Unknown, WrongStage}
use Rattle.evl_base.specs.declared.call.Call.{Call}
use Rattle.evl_base.specs.declared.call.Call.TheVariants.{Attach, Arrive, BeginTake, Finish, PeekFlags, Pick, PostFlags, Request, SetStage, Tick, TryTake}
use Rattle.evl_base.specs.declared.reply.Reply.{Reply}
use Rattle.evl_base.specs.declared.reply.Reply.TheVariants.{Begun, Bits, Chosen, Done, TimedOut}
use Rattle.evl_base.specs.declared.play.Play.{Play}
use Rattle.evl_base.specs.declared.play.Play.TheVariants.{Clock, Deadline, Line}
use Rattle.evl_pipeline.specs.declared.action.Action.TheVariants as action
use Rattle.evl_pipeline.specs.Lines as lines
use Rattle.evl_clock.specs.Clocks as clocks
use Rattle.evl_clock.specs.Dues.{next_due}
use Rattle.evl_sched.specs.Threads as threads
use Rattle.evl_kernel.specs.state.States.{State, Handler}
use Rattle.evl_kernel.specs.state.Openings.{opening}
use Rattle.evl_kernel.specs.histories.Replays.{step_outcome}
use Rattle.evl_kernel.specs.settling.Settling.{next_move}
use Rattle.evl_kernel.specs.calls.ThreadCalls.{rank_by}

-- the answers and plays of calls, each by its thread
abbrev replies : State → List (ℕ × Call) → List (Result Reply Refusal × List Play)
replies s [] = []
replies s ((caller, asked) ∷ calls) = let one = step_outcome s caller asked in (one.reply, one.plays) ∷ replies one.after calls

-- callback 0 posts bit 1 of flag group 0
abbrev bank : List Handler
bank = record { kinds = 2; plan = record { accepts = 1; rows = record { items = (1, action.PostFlags (record { 0 = 0 }) 1) ∷ [] } } } ∷ []

-- four threads, with flag groups of these bits
abbrev start : List ℕ → State
start bits =
    opening (record {
      threads = 4;
      sems = record { items = [] };
      flags = record { items = bits };
      xbufs = record { items = [] };
      mutexes = record { items = [] };
      groups = record { items = [] };
      staxes = record { items = [] };
    }) bank

abbrev said : Reply → Result Reply Refusal × List Play
said reply = (Ok reply, [])

abbrev refused : Refusal → Result Reply Refusal × List Play
refused refusal = (Err refusal, [])

abbrev flags_0 : FlagId
flags_0 = record { 0 = 0 }

flag_waiters : replies (start (0 ∷ [])) (
    (1, Attach (Fifo 20) Oob) ∷ (2, Attach (Fifo 10) Oob) ∷ (1, BeginTake flags_0 (Exact 6) None) ∷ (2, BeginTake flags_0 (Of 1) None) ∷ (0, PostFlags flags_0 2) ∷ (0, PostFlags flags_0 5)
    ∷ (1, Finish false) ∷ (2, Finish false) ∷ (0, PeekFlags flags_0) ∷ (0, PostFlags flags_0 0) ∷ []
    ) ≡ said Done ∷ said Done ∷ said Begun ∷ said Begun ∷ said Done ∷ said Done ∷ said (Bits 6) ∷ said (Bits 1) ∷ said (Bits 0) ∷ refused Invalid ∷ []
unfolding next_move lines.opening clocks.opening next_due threads.opening rank_by
flag_waiters = refl

takes : replies (start (3 ∷ [])) ((0, TryTake flags_0 (Of 0)) ∷ (0, TryTake flags_0 (Exact 4)) ∷ (0, TryTake flags_0 (Of 2)) ∷ (0, TryTake flags_0 Any) ∷ (0, TryTake flags_0 Any) ∷ [])
    ≡ refused Invalid ∷ refused Again ∷ said (Bits 2) ∷ said (Bits 1) ∷ refused Again ∷ []
unfolding next_move lines.opening clocks.opening next_due threads.opening rank_by
takes = refl

-- a callback's post, while another's call settles
posted_by_a_callback : replies (start (0 ∷ [])) (
    (1, Attach (Fifo 10) Oob) ∷ (1, BeginTake flags_0 (Exact 1) None) ∷ (0, Request (record { 0 = 9 }) Oob 0 0) ∷ (0, Arrive (record { 0 = 9 })) ∷ (0, Pick) ∷ (1, Finish false)
    ∷ (0, Arrive (record { 0 = 9 })) ∷ (0, PeekFlags flags_0) ∷ []
    ) ≡ said Done ∷ said Begun ∷ said Done ∷ (Ok Done, Line (record { 0 = 9 }) Oob 1 true ∷ []) ∷ said (Chosen (Some (record { 0 = 1 }))) ∷ said (Bits 1)
    ∷ (Ok Done, Line (record { 0 = 9 }) Oob 2 true ∷ []) ∷ said (Bits 1) ∷ []
unfolding next_move lines.opening clocks.opening next_due threads.opening rank_by
posted_by_a_callback = refl

-- the middle one of three waiters isn't satisfied; a take goes past waiters
middle_waiter_stays : replies (start (0 ∷ [])) (
    (1, Attach (Fifo 30) Oob) ∷ (2, Attach (Fifo 20) Oob) ∷ (3, Attach (Fifo 10) Oob) ∷ (1, BeginTake flags_0 (Of 3) None) ∷ (2, BeginTake flags_0 (Exact 12) None) ∷ (3, BeginTake flags_0 Any None)
    ∷ (0, PostFlags flags_0 6) ∷ (1, Finish false) ∷ (2, Finish false) ∷ (3, Finish false) ∷ (0, PostFlags flags_0 8) ∷ (1, BeginTake flags_0 (Of 8) None) ∷ (1, Finish false) ∷ []
    ) ≡ said Done ∷ said Done ∷ said Done ∷ said Begun ∷ said Begun ∷ said Begun ∷ said Done ∷ said (Bits 2) ∷ refused Again ∷ said (Bits 4) ∷ said Done ∷ said Begun ∷ said (Bits 8) ∷ []
unfolding next_move lines.opening clocks.opening next_due threads.opening rank_by
middle_waiter_stays = refl

-- the refusals of a beginning, in order; a deadline ends the wait
begin_refusals : replies (start (1 ∷ [])) (
    (1, BeginTake (record { 0 = 1 }) (Of 0) None) ∷ (1, BeginTake flags_0 Any None) ∷ (1, Attach (Fifo 10) Inband) ∷ (1, BeginTake flags_0 (Of 0) None) ∷ (1, BeginTake flags_0 Any None)
    ∷ (1, SetStage Oob) ∷ (1, BeginTake flags_0 (Of 2) (Some 5)) ∷ (1, PeekFlags flags_0) ∷ (0, Tick 5) ∷ (1, Finish false) ∷ []
    ) ≡ refused Unknown ∷ refused Invalid ∷ said Done ∷ refused Invalid ∷ refused WrongStage ∷ said Done ∷ said Begun ∷ refused Busy ∷ (Ok Done, Clock ∷ Deadline (record { 0 = 1 }) ∷ []) ∷ said TimedOut ∷ []
unfolding next_move lines.opening clocks.opening next_due threads.opening rank_by
begin_refusals = refl
