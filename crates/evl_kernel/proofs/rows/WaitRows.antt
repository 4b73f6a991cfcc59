-- Rows of waits, by computation: what each call answers and plays.
use Rattle.std.proofs.Common.{◌≡◌, ℕ, List, [], ◌∷◌, Some, None, Result, Ok, Err, true, false, pos, neg_ℤ, refl}
use Rattle.evl_base.specs.declared.numbers.SemId.{SemId}
use Rattle.evl_base.specs.declared.numbers.ThreadId.{ThreadId}
use Rattle.evl_base.specs.declared.policy.Policy.TheVariants.{Fifo, Quota, Weak}
use Rattle.evl_base.specs.declared.stage.Stage.TheVariants.{Oob}
use Rattle.evl_base.specs.declared.refusal.Refusal.{Refusal}
use Rattle.evl_base.specs.declared.refusal.Refusal.TheVariants.{Again, Busy, Invalid, Unknown, WrongStage}
use Rattle.evl_base.specs.declared.call.Call.{Call}
use Rattle.evl_base.specs.declared.call.Call.TheVariants.{Attach, Arrive, BeginGet, Finish, NewTimer, Peek, Pick, Put, RankOf, Request, StartTimer, Tick}
use Rattle.evl_base.specs.declared.reply.Reply.{Reply}
use Rattle.evl_base.specs.declared.reply.Reply.TheVariants.{Begun, Chosen, Count, Done, Number, TimedOut}
use Rattle.evl_base.specs.declared.play.Play.{Play}
use Rattle.evl_base.specs.declared.play.Play.TheVariants.{Clock, Deadline, Line, Timer}
use Rattle.evl_pipeline.specs.declared.action.Action.TheVariants as action
use Rattle.evl_pipeline.specs.Lines as lines
use Rattle.evl_clock.specs.Clocks as clocks
use Rattle.evl_clock.specs.Dues.{next_due}
use Rattle.evl_sched.specs.Threads as threads
use Rattle.evl_kernel.specs.state.States.{State, Handler}
use Rattle.evl_kernel.specs.state.Openings.{opening}
use Rattle.evl_kernel.specs.histories.Replays.{step_outcome}
use Rattle.evl_kernel.specs.settling.Settling.{next_move}
use Rattle.evl_kernel.specs.calls.ThreadCalls.{rank_by}

-- the answers and plays of calls, each by its thread
abbrev replies : State → List (ℕ × Call) → List (Result Reply Refusal × List Play)
replies s [] = []
replies s ((caller, asked) ∷ calls) = let one = step_outcome s caller asked in (one.reply, one.plays) ∷ replies one.after calls

-- callback 0 has no actions, and callback 1 puts semaphore 0
abbrev bank : List Handler
bank =
    record { kinds = 0; plan = record { accepts = 1; rows = record { items = [] } } }
    ∷ record { kinds = 1; plan = record { accepts = 1; rows = record { items = (1, action.PostSem (record { 0 = 0 })) ∷ [] } } }
    ∷ []

-- three threads, with these semaphores and groups
abbrev start : List ℕ → List ℕ → State
start sems groups =
    opening (record {
      threads = 3;
      sems = record { items = sems };
      flags = record { items = [] };
      xbufs = record { items = [] };
      mutexes = record { items = [] };
      groups = record { items = groups };
      staxes = record { items = [] };
    }) bank

abbrev said : Reply → Result Reply Refusal × List Play
said reply = (Ok reply, [])

abbrev refused : Refusal → Result Reply Refusal × List Play
refused refusal = (Err refusal, [])

abbrev sem_0 : SemId
sem_0 = record { 0 = 0 }

abbrev thread_1 : ThreadId
thread_1 = record { 0 = 1 }

waits_1 : replies (start (0 ∷ []) []) (
    (1, Attach (Fifo 10) Oob) ∷ (2, Attach (Fifo 20) Oob) ∷ (1, BeginGet sem_0 None) ∷ (2, BeginGet sem_0 None) ∷ (0, Peek sem_0) ∷ (0, Put sem_0)
    ∷ (1, Finish false) ∷ (2, Finish false) ∷ (2, Finish false) ∷ []
    ) ≡ said Done ∷ said Done ∷ said Begun ∷ said Begun ∷ said (Count (neg_ℤ (pos 2))) ∷ said Done ∷ refused Again ∷ said Done ∷ refused Invalid ∷ []
unfolding next_move lines.opening clocks.opening next_due threads.opening rank_by
waits_1 = refl

waits_2 : replies (start (0 ∷ []) []) ((1, Attach (Fifo 10) Oob) ∷ (1, BeginGet sem_0 (Some 0)) ∷ (1, Finish false) ∷ [])
    ≡ said Done ∷ (Ok Begun, Clock ∷ Deadline thread_1 ∷ []) ∷ said TimedOut ∷ []
unfolding next_move lines.opening clocks.opening next_due threads.opening rank_by
waits_2 = refl

-- a timer before a deadline at one date: it serves the waiter, whose deadline is gone
timer_before_deadline : replies (start (0 ∷ []) []) (
    (0, NewTimer 1 0) ∷ (0, StartTimer (record { 0 = 0 }) 50 0) ∷ (1, Attach (Fifo 10) Oob) ∷ (1, BeginGet sem_0 (Some 50)) ∷ (0, Tick 50) ∷ (1, Finish false) ∷ []
    ) ≡ said (Number 0) ∷ said Done ∷ said Done ∷ said Begun ∷ (Ok Done, Clock ∷ Timer (record { 0 = 0 }) 1 0 true ∷ []) ∷ said Done ∷ []
unfolding next_move lines.opening clocks.opening next_due threads.opening rank_by
timer_before_deadline = refl

-- and the deadline before it
deadline_before_timer : replies (start (0 ∷ []) []) (
    (0, NewTimer 1 0) ∷ (0, StartTimer (record { 0 = 0 }) 50 0) ∷ (1, Attach (Fifo 10) Oob) ∷ (1, BeginGet sem_0 (Some 49)) ∷ (0, Tick 50) ∷ (1, Finish false) ∷ (0, Peek sem_0) ∷ []
    ) ≡ said (Number 0) ∷ said Done ∷ said Done ∷ said Begun ∷ (Ok Done, Clock ∷ Deadline thread_1 ∷ Timer (record { 0 = 0 }) 1 0 true ∷ []) ∷ said TimedOut ∷ said (Count (pos 1)) ∷ []
unfolding next_move lines.opening clocks.opening next_due threads.opening rank_by
deadline_before_timer = refl

-- an unfinished wait comes first, whatever is asked; a weak thread goes in-band as its wait is finished
weak_goes_inband : replies (start (1 ∷ []) []) (
    (1, Attach (Weak 5) Oob) ∷ (1, BeginGet sem_0 (Some 0)) ∷ (1, Put sem_0) ∷ (1, RankOf (record { 0 = 9 })) ∷ (1, Finish false) ∷ (1, BeginGet sem_0 None) ∷ (0, BeginGet sem_0 None) ∷ (0, BeginGet (record { 0 = 1 }) None) ∷ []
    ) ≡ said Done ∷ said Begun ∷ refused Busy ∷ refused Busy ∷ said Done ∷ refused WrongStage ∷ refused Invalid ∷ refused Unknown ∷ []
unfolding next_move lines.opening clocks.opening next_due threads.opening rank_by
weak_goes_inband = refl

weak_keeps_its_stage : replies (start (1 ∷ []) []) ((1, Attach (Weak 5) Oob) ∷ (1, BeginGet sem_0 None) ∷ (1, Finish true) ∷ (1, BeginGet sem_0 None) ∷ (1, Finish false) ∷ [])
    ≡ said Done ∷ said Begun ∷ said Done ∷ said Begun ∷ refused Again ∷ []
unfolding next_move lines.opening clocks.opening next_due threads.opening rank_by
weak_keeps_its_stage = refl

-- a callback's put while another's call settles
served_by_a_callback : replies (start (0 ∷ []) []) (
    (1, Attach (Fifo 10) Oob) ∷ (1, BeginGet sem_0 None) ∷ (0, Pick) ∷ (2, Request (record { 0 = 5 }) Oob 1 0) ∷ (2, Arrive (record { 0 = 5 })) ∷ (0, Pick) ∷ (0, Peek sem_0) ∷ (1, Finish false) ∷ []
    ) ≡ said Done ∷ said Begun ∷ said (Chosen None) ∷ said Done ∷ (Ok Done, Line (record { 0 = 5 }) Oob 1 true ∷ []) ∷ said (Chosen (Some thread_1)) ∷ said (Count (pos 0)) ∷ said Done ∷ []
unfolding next_move lines.opening clocks.opening next_due threads.opening rank_by
served_by_a_callback = refl

-- a group without budget, until a new second
quota_refill : replies (start [] (10 ∷ [])) (
    (1, Attach (Quota 0 5) Oob) ∷ (0, RankOf thread_1) ∷ (0, Pick) ∷ (0, Tick 100000000) ∷ (0, Pick) ∷ (0, Tick 900000000) ∷ (0, Pick) ∷ (2, Attach (Quota 1 5) Oob) ∷ []
    ) ≡ said Done ∷ said (Number 261) ∷ said (Chosen (Some thread_1)) ∷ said Done ∷ said (Chosen None) ∷ said Done ∷ said (Chosen (Some thread_1)) ∷ refused Unknown ∷ []
unfolding next_move lines.opening clocks.opening next_due threads.opening rank_by
quota_refill = refl
