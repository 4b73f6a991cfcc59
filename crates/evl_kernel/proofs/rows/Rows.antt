-- Worked rows, computed on the definitions.
use Rattle.std.proofs.Common.{◌≡◌, ℕ, List, [], ◌∷◌, ◌++◌, length, map, Bool, Option, Some, None, Result, Ok, Err, true, false, refl, pos}
use Rattle.evl_base.specs.declared.board.Board.{Board}
use Rattle.evl_base.specs.declared.call.Call.{Call}
use Rattle.evl_base.specs.declared.call.Call.TheVariants.{Request, Free, Arrive, Post, Stall, Unstall, Tick, NewTimer, StartTimer, Attach, SetStage, TryGet, Put, Peek}
use Rattle.evl_base.specs.declared.reply.Reply.{Reply}
use Rattle.evl_base.specs.declared.reply.Reply.TheVariants.{Done, Count}
use Rattle.evl_base.specs.declared.refusal.Refusal.{Refusal}
use Rattle.evl_base.specs.declared.refusal.Refusal.TheVariants.{Unknown, Invalid, Again, Busy, Range}
use Rattle.evl_base.specs.declared.entry.Entry.{Entry}
use Rattle.evl_base.specs.declared.play.Play.{Play}
use Rattle.evl_base.specs.declared.play.Play.TheVariants.{Clock, Line}
use Rattle.evl_base.specs.declared.stage.Stage.TheVariants.{Inband, Oob}
use Rattle.evl_pipeline.specs.declared.action.Action.{Action}
use Rattle.evl_pipeline.specs.declared.action.Action.TheVariants as action
use Rattle.evl_pipeline.specs.Counts.{count_at}
use Rattle.evl_pipeline.specs.Lines as lines
use Rattle.std.specs.Option.{option_map}
use Rattle.evl_base.specs.declared.policy.Policy.TheVariants.{Fifo}
use Rattle.evl_clock.specs.declared.timer_state.TimerState.{TimerState}
use Rattle.evl_clock.specs.declared.timer_state.TimerState.TheVariants.{Idle, Running, Ended}
use Rattle.evl_clock.specs.Clocks as clocks
use Rattle.evl_clock.specs.Dues.{next_due}
use Rattle.evl_sched.specs.Threads as threads
use Rattle.evl_kernel.specs.state.States.{State, Handler}
use Rattle.evl_kernel.specs.state.Openings.{opening}
use Rattle.evl_kernel.specs.settling.Settling.{next_move, all_acting, responding}
use Rattle.evl_kernel.specs.calls.ThreadCalls.{rank_by}
use Rattle.evl_kernel.specs.histories.Replays.{step_outcome, touches_of}
use Rattle.evl_kernel.specs.calls.Effects.{Made, Runs}
use Rattle.evl_sync.specs.Semaphores.{opened_semaphore}
use Rattle.evl_kernel.specs.calls.Semaphores.{SemStep, get, peek, put, semaphore}
use Rattle.evl_kernel.specs.calls.Elements.{its_sem, part}
use Rattle.evl_kernel.specs.calls.Serving.{what_call_does}

-- the answers and plays of calls, one after another, and where they lead
abbrev replies : State → List Call → List (Result Reply Refusal × List Play)
replies s [] = []
replies s (asked ∷ calls) = let one = step_outcome s 0 asked in (one.reply, one.plays) ∷ replies one.after calls

abbrev led : State → List Call → State
led s [] = s
led s (asked ∷ calls) = led (step_outcome s 0 asked).after calls

abbrev handler : ℕ → ℕ → List (ℕ × Action) → Handler
handler kinds accepts rows = record { kinds = kinds; plan = record { accepts = accepts; rows = record { items = rows } } }

-- the eight callbacks of the program
abbrev bank : List Handler
bank =
    handler 0 1 []
    ∷ handler 1 1 ((1, action.PostSem (record { 0 = 0 })) ∷ [])
    ∷ handler 1 1 ((2, action.PostSem (record { 0 = 0 })) ∷ [])
    ∷ handler 4 1 ((1, action.Propagate) ∷ [])
    ∷ handler 8 1 ((1, action.PostOob (record { 0 = 4 })) ∷ [])
    ∷ handler 2 1 ((1, action.PostFlags (record { 0 = 0 }) 1) ∷ [])
    ∷ handler 16 2 ((1, action.StopTimer (record { 0 = 0 })) ∷ [])
    ∷ handler 0 1 []
    ∷ []

-- a board of one thread with these semaphores
abbrev board : List ℕ → Board
board sems = record {
  threads = 1;
  sems = record { items = sems };
  flags = record { items = [] };
  xbufs = record { items = [] };
  mutexes = record { items = [] };
  groups = record { items = [] };
  staxes = record { items = [] };
}

abbrev start : List ℕ → State
start sems = opening (board sems) bank

abbrev done : Result Reply Refusal × List Play
done = (Ok Done, [])

abbrev plays : List Play → Result Reply Refusal × List Play
plays ps = (Ok Done, ps)

abbrev refused : Refusal → Result Reply Refusal × List Play
refused r = (Err r, [])

first_semaphore : replies (start (0 ∷ [])) (TryGet (record { 0 = 0 }) ∷ Put (record { 0 = 0 }) ∷ TryGet (record { 0 = 0 }) ∷ Peek (record { 0 = 0 }) ∷ [])
    ≡ refused Again ∷ done ∷ done ∷ (Ok (Count (pos 0)), []) ∷ []
unfolding next_move lines.opening clocks.opening next_due threads.opening rank_by
first_semaphore = refl

semaphore_path_1 : replies (start (2147483647 ∷ [])) (Put (record { 0 = 0 }) ∷ Peek (record { 0 = 0 }) ∷ [])
    ≡ refused Range ∷ (Ok (Count (pos 2147483647)), []) ∷ []
unfolding next_move lines.opening clocks.opening next_due threads.opening rank_by
semaphore_path_1 = refl

semaphore_path_2 : (step_outcome (start (1 ∷ [])) 1 (TryGet (record { 0 = 0 }))).reply ∷ (step_outcome (start (1 ∷ [])) 0 (TryGet (record { 0 = 1 }))).reply ∷ [] ≡ Err Unknown ∷ Err Unknown ∷ []
unfolding next_move lines.opening clocks.opening next_due threads.opening rank_by
semaphore_path_2 = refl

stalled_inband : replies (start []) (
    Request (record { 0 = 5 }) Oob 0 0 ∷ Request (record { 0 = 3 }) Inband 7 0 ∷ Stall Inband
    ∷ Arrive (record { 0 = 5 }) ∷ Arrive (record { 0 = 3 }) ∷ Unstall Inband ∷ []
    ) ≡ done ∷ done ∷ done ∷ plays (Line (record { 0 = 5 }) Oob 1 true ∷ []) ∷ done ∷ plays (Line (record { 0 = 3 }) Inband 1 true ∷ []) ∷ []
unfolding next_move lines.opening clocks.opening next_due threads.opening rank_by
stalled_inband = refl

merged_arrivals : replies (start []) (
    Request (record { 0 = 7 }) Oob 0 0 ∷ Stall Oob ∷ Arrive (record { 0 = 7 }) ∷ Arrive (record { 0 = 7 }) ∷ Arrive (record { 0 = 7 }) ∷ Unstall Oob ∷ []
    ) ≡ done ∷ done ∷ done ∷ done ∷ done ∷ plays (Line (record { 0 = 7 }) Oob 1 true ∷ []) ∷ []
unfolding next_move lines.opening clocks.opening next_due threads.opening rank_by
merged_arrivals = refl

lowest_line_first : replies (start (0 ∷ [])) (
    Request (record { 0 = 9 }) Oob 0 0 ∷ Request (record { 0 = 2 }) Oob 7 0 ∷ Request (record { 0 = 1023 }) Oob 1 0 ∷ Stall Oob
    ∷ Arrive (record { 0 = 9 }) ∷ Arrive (record { 0 = 1023 }) ∷ Arrive (record { 0 = 2 }) ∷ Unstall Oob ∷ Peek (record { 0 = 0 }) ∷ []
    ) ≡ done ∷ done ∷ done ∷ done ∷ done ∷ done ∷ done
    ∷ plays (Line (record { 0 = 2 }) Oob 1 true ∷ Line (record { 0 = 9 }) Oob 1 true ∷ Line (record { 0 = 1023 }) Oob 1 true ∷ []) ∷ (Ok (Count (pos 1)), []) ∷ []
unfolding next_move lines.opening clocks.opening next_due threads.opening rank_by
lowest_line_first = refl

ping_pong : replies (start []) (
    Request (record { 0 = 5 }) Inband 4 0 ∷ Request (record { 0 = 6 }) Inband 0 0 ∷ Request (record { 0 = 4 }) Oob 7 0 ∷ Stall Inband
    ∷ Arrive (record { 0 = 6 }) ∷ Arrive (record { 0 = 5 }) ∷ Unstall Inband ∷ []
    ) ≡ done ∷ done ∷ done ∷ done ∷ done ∷ done
    ∷ plays (Line (record { 0 = 5 }) Inband 1 true ∷ Line (record { 0 = 4 }) Oob 1 true ∷ Line (record { 0 = 6 }) Inband 1 true ∷ []) ∷ []
unfolding next_move lines.opening clocks.opening next_due threads.opening rank_by
ping_pong = refl

-- the other run: an out-of-band callback and an in-band one hand line 4 to and fro
abbrev to_and_fro : List Call
to_and_fro = Request (record { 0 = 4 }) Oob 3 0 ∷ Request (record { 0 = 4 }) Inband 4 0 ∷ Arrive (record { 0 = 4 }) ∷ []

ping_pong_is_refused : replies (start []) (Request (record { 0 = 4 }) Oob 4 0 ∷ []) ≡ refused Invalid ∷ []
unfolding next_move lines.opening clocks.opening next_due threads.opening rank_by
ping_pong_is_refused = refl

ping_pong_is_bounded : map (λ r. length r.1) (replies (start []) to_and_fro) ≡ 0 ∷ 0 ∷ 129 ∷ []
unfolding next_move lines.opening clocks.opening next_due threads.opening rank_by
ping_pong_is_bounded = refl

abbrev pending_on_4 : State → Bool × Bool
pending_on_4 s = (lines.is_pending s.lines Inband 4, lines.is_pending s.lines Oob 4)

ping_pong_leaves : pending_on_4 (led (start []) to_and_fro) ≡ (true, false)
unfolding next_move lines.opening clocks.opening next_due threads.opening rank_by
ping_pong_leaves = refl

post_from_handler : replies (start (0 ∷ [])) (Request (record { 0 = 8 }) Oob 2 0 ∷ Arrive (record { 0 = 8 }) ∷ Arrive (record { 0 = 8 }) ∷ Peek (record { 0 = 0 }) ∷ [])
    ≡ done ∷ plays (Line (record { 0 = 8 }) Oob 1 true ∷ []) ∷ plays (Line (record { 0 = 8 }) Oob 2 true ∷ []) ∷ (Ok (Count (pos 1)), []) ∷ []
unfolding next_move lines.opening clocks.opening next_due threads.opening rank_by
post_from_handler = refl

second_is_handled : replies (start []) (Request (record { 0 = 2 }) Oob 6 0 ∷ Arrive (record { 0 = 2 }) ∷ Arrive (record { 0 = 2 }) ∷ [])
    ≡ done ∷ plays (Line (record { 0 = 2 }) Oob 1 false ∷ []) ∷ plays (Line (record { 0 = 2 }) Oob 2 true ∷ []) ∷ []
unfolding next_move lines.opening clocks.opening next_due threads.opening rank_by
second_is_handled = refl

lines_1 : replies (start []) (
    Request (record { 0 = 5 }) Oob 0 0 ∷ Request (record { 0 = 6 }) Oob 0 0 ∷ Free (record { 0 = 5 }) Oob ∷ Free (record { 0 = 5 }) Oob
    ∷ Request (record { 0 = 6 }) Oob 0 0 ∷ Free (record { 0 = 0 }) Oob ∷ Arrive (record { 0 = 4096 }) ∷ Post Inband (record { 0 = 6 }) ∷ []
    ) ≡ done ∷ refused Busy ∷ done ∷ refused Unknown ∷ done ∷ refused Invalid ∷ refused Unknown ∷ done ∷ []
unfolding next_move lines.opening clocks.opening next_due threads.opening rank_by
lines_1 = refl

lines_2 : replies (start []) (Arrive (record { 0 = 0 }) ∷ []) ≡ plays (Clock ∷ []) ∷ []
unfolding next_move lines.opening clocks.opening next_due threads.opening rank_by
lines_2 = refl

lines_3 : replies (start []) (Stall Oob ∷ Request (record { 0 = 3 }) Oob 0 0 ∷ Arrive (record { 0 = 3 }) ∷ Free (record { 0 = 3 }) Oob ∷ Unstall Oob ∷ [])
    ≡ done ∷ done ∷ done ∷ done ∷ done ∷ []
unfolding next_move lines.opening clocks.opening next_due threads.opening rank_by
lines_3 = refl

-- the order of refusals of a request
request_refusals : replies (start []) (
    Request (record { 0 = 0 }) Oob 8 0 ∷ Request (record { 0 = 4096 }) Oob 4 0 ∷ Request (record { 0 = 0 }) Inband 0 0
    ∷ Request (record { 0 = 9 }) Oob 3 0 ∷ Request (record { 0 = 8 }) Inband 3 0 ∷ Request (record { 0 = 9 }) Oob 0 0 ∷ Request (record { 0 = 8 }) Oob 3 0 ∷ []
    ) ≡ refused Unknown ∷ refused Unknown ∷ refused Invalid ∷ done ∷ refused Invalid ∷ refused Busy ∷ refused Busy ∷ []
unfolding next_move lines.opening clocks.opening next_due threads.opening rank_by
request_refusals = refl

-- the order of refusals of a free
free_refusals : replies (start []) (Free (record { 0 = 4096 }) Oob ∷ Free (record { 0 = 0 }) Oob ∷ Free (record { 0 = 0 }) Inband ∷ Free (record { 0 = 5 }) Inband ∷ [])
    ≡ refused Unknown ∷ refused Invalid ∷ refused Invalid ∷ refused Unknown ∷ []
unfolding next_move lines.opening clocks.opening next_due threads.opening rank_by
free_refusals = refl

-- there is no such line, and no such semaphore
unknown_numbers : replies (start (1 ∷ [])) (
    Post Oob (record { 0 = 4096 }) ∷ Post Inband (record { 0 = 65535 }) ∷ Arrive (record { 0 = 4096 })
    ∷ TryGet (record { 0 = 1 }) ∷ Put (record { 0 = 1 }) ∷ Peek (record { 0 = 1 }) ∷ []
    ) ≡ refused Unknown ∷ refused Unknown ∷ refused Unknown ∷ refused Unknown ∷ refused Unknown ∷ refused Unknown ∷ []
unfolding next_move lines.opening clocks.opening next_due threads.opening rank_by
unknown_numbers = refl

-- there is no such thread: that goes before all else
abbrev replies_to_stranger : State → List Call → List (Result Reply Refusal)
replies_to_stranger s calls = map (λ asked. (step_outcome s 1 asked).reply) calls

stranger_is_unknown : replies_to_stranger (start (0 ∷ [])) (
    Request (record { 0 = 0 }) Oob 0 0 ∷ Free (record { 0 = 0 }) Oob ∷ Arrive (record { 0 = 0 }) ∷ Post Oob (record { 0 = 0 })
    ∷ Stall Oob ∷ Unstall Oob ∷ TryGet (record { 0 = 0 }) ∷ Put (record { 0 = 0 }) ∷ Peek (record { 0 = 0 }) ∷ []
    ) ≡ Err Unknown ∷ Err Unknown ∷ Err Unknown ∷ Err Unknown ∷ Err Unknown ∷ Err Unknown ∷ Err Unknown ∷ Err Unknown ∷ Err Unknown ∷ []
unfolding next_move lines.opening clocks.opening next_due threads.opening rank_by
stranger_is_unknown = refl

-- how many events of a line were spurious after these calls
abbrev spurious_after : List Call → ℕ → ℕ
spurious_after calls line = count_at (led (start []) calls).lines.spurious line

-- a post in-band where the callback is out-of-band, an arrival where there is none, and a post in-band on line 0
spurious_events : spurious_after (Request (record { 0 = 6 }) Oob 0 0 ∷ Post Inband (record { 0 = 6 }) ∷ []) 6
    ∷ spurious_after (Arrive (record { 0 = 6 }) ∷ Arrive (record { 0 = 6 }) ∷ []) 6
    ∷ spurious_after (Post Inband (record { 0 = 0 }) ∷ []) 0 ∷ [] ≡ 1 ∷ 2 ∷ 1 ∷ []
unfolding next_move lines.opening clocks.opening next_due threads.opening rank_by
spurious_events = refl

-- so do actions that post where there is no callback
spurious_actions : spurious_after (Request (record { 0 = 3 }) Oob 3 0 ∷ Arrive (record { 0 = 3 }) ∷ []) 3
    ∷ spurious_after (Request (record { 0 = 3 }) Inband 4 0 ∷ Arrive (record { 0 = 3 }) ∷ []) 4 ∷ [] ≡ 1 ∷ 1 ∷ []
unfolding next_move lines.opening clocks.opening next_due threads.opening rank_by
spurious_actions = refl

-- an action whose call would be refused does nothing: there is no such semaphore, or its count is the greatest
refused_actions : replies (start []) (Request (record { 0 = 2 }) Oob 1 0 ∷ Arrive (record { 0 = 2 }) ∷ Peek (record { 0 = 0 }) ∷ [])
    ++ replies (start (2147483647 ∷ [])) (Request (record { 0 = 2 }) Oob 1 0 ∷ Arrive (record { 0 = 2 }) ∷ Peek (record { 0 = 0 }) ∷ [])
    ≡ done ∷ plays (Line (record { 0 = 2 }) Oob 1 true ∷ []) ∷ refused Unknown
    ∷ done ∷ plays (Line (record { 0 = 2 }) Oob 1 true ∷ []) ∷ (Ok (Count (pos 2147483647)), []) ∷ []
unfolding next_move lines.opening clocks.opening next_due threads.opening rank_by
refused_actions = refl

-- a callback that handles each second event, and asks for a put at every one
abbrev second_puts : State
second_puts = opening (board (0 ∷ [])) (handler 1 2 ((1, action.PostSem (record { 0 = 0 })) ∷ []) ∷ [])

-- of an answer that isn't handled no action is carried out
actions_of_unhandled : replies second_puts (
    Request (record { 0 = 2 }) Oob 0 0 ∷ Arrive (record { 0 = 2 }) ∷ Peek (record { 0 = 0 }) ∷ Arrive (record { 0 = 2 }) ∷ Peek (record { 0 = 0 }) ∷ []
    ) ≡ done ∷ plays (Line (record { 0 = 2 }) Oob 1 false ∷ []) ∷ (Ok (Count (pos 0)), [])
    ∷ plays (Line (record { 0 = 2 }) Oob 2 true ∷ []) ∷ (Ok (Count (pos 1)), []) ∷ []
unfolding next_move lines.opening clocks.opening next_due threads.opening rank_by
actions_of_unhandled = refl

-- the clock's line goes before the other out-of-band lines
clock_comes_first : replies (start []) (
    Request (record { 0 = 1 }) Oob 0 0 ∷ Stall Oob ∷ Arrive (record { 0 = 1 }) ∷ Post Oob (record { 0 = 0 }) ∷ Unstall Oob ∷ []
    ) ≡ done ∷ done ∷ done ∷ done ∷ plays (Clock ∷ Line (record { 0 = 1 }) Oob 1 true ∷ []) ∷ []
unfolding next_move lines.opening clocks.opening next_due threads.opening rank_by
clock_comes_first = refl

-- an out-of-band stall holds in-band lines back too
oob_stall_holds_inband : replies (start []) (
    Request (record { 0 = 3 }) Inband 7 0 ∷ Stall Oob ∷ Arrive (record { 0 = 3 }) ∷ Unstall Inband ∷ Unstall Oob ∷ []
    ) ≡ done ∷ done ∷ done ∷ done ∷ plays (Line (record { 0 = 3 }) Inband 1 true ∷ []) ∷ []
unfolding next_move lines.opening clocks.opening next_due threads.opening rank_by
oob_stall_holds_inband = refl

-- a free drops the event of its own stage alone, and a request finds nothing pending
free_drops_one_event : replies (start []) (
    Request (record { 0 = 3 }) Oob 0 0 ∷ Request (record { 0 = 3 }) Inband 7 0 ∷ Stall Oob ∷ Post Oob (record { 0 = 3 }) ∷ Post Inband (record { 0 = 3 })
    ∷ Free (record { 0 = 3 }) Oob ∷ Request (record { 0 = 3 }) Oob 0 0 ∷ Unstall Oob ∷ []
    ) ≡ done ∷ done ∷ done ∷ done ∷ done ∷ done ∷ done ∷ plays (Line (record { 0 = 3 }) Inband 1 true ∷ []) ∷ []
unfolding next_move lines.opening clocks.opening next_due threads.opening rank_by
free_drops_one_event = refl

-- a request begins the count of fires anew, and keeps that of unhandled answers
abbrev requested_anew : List Call
requested_anew =
    Request (record { 0 = 2 }) Oob 6 0 ∷ Arrive (record { 0 = 2 }) ∷ Free (record { 0 = 2 }) Oob ∷ Request (record { 0 = 2 }) Oob 6 0 ∷ Arrive (record { 0 = 2 }) ∷ []

request_counts_anew : replies (start []) requested_anew
    ≡ done ∷ plays (Line (record { 0 = 2 }) Oob 1 false ∷ []) ∷ done ∷ done ∷ plays (Line (record { 0 = 2 }) Oob 1 false ∷ []) ∷ []
unfolding next_move lines.opening clocks.opening next_due threads.opening rank_by
request_counts_anew = refl

unhandled_is_kept : count_at (led (start []) requested_anew).lines.oob.unhandled 2 ≡ 2
unfolding next_move lines.opening clocks.opening next_due threads.opening rank_by
unhandled_is_kept = refl

-- after 64 in-band plays a refused call plays nothing, and the next accepted call goes on with 64 more
ping_pong_goes_on : map (λ r. length r.1) (replies (start (0 ∷ [])) (to_and_fro ++ Arrive (record { 0 = 4096 }) ∷ TryGet (record { 0 = 0 }) ∷ Peek (record { 0 = 0 }) ∷ []))
    ≡ 0 ∷ 0 ∷ 129 ∷ 0 ∷ 0 ∷ 128 ∷ []
unfolding next_move lines.opening clocks.opening next_due threads.opening rank_by
ping_pong_goes_on = refl

-- the same to and fro, with a put at each out-of-band fire
abbrev putting : State
putting = opening (board (0 ∷ [])) (handler 5 1 ((1, action.Propagate) ∷ (1, action.PostSem (record { 0 = 0 })) ∷ []) ∷ handler 8 1 ((1, action.PostOob (record { 0 = 4 })) ∷ []) ∷ [])

-- the answer is that of the moment before settling
reply_is_before_settling : map (λ r. r.0) (replies putting (
    Request (record { 0 = 4 }) Oob 0 0 ∷ Request (record { 0 = 4 }) Inband 1 0 ∷ Arrive (record { 0 = 4 }) ∷ Peek (record { 0 = 0 }) ∷ Peek (record { 0 = 0 }) ∷ []
    )) ≡ Ok Done ∷ Ok Done ∷ Ok Done ∷ Ok (Count (pos 65)) ∷ Ok (Count (pos 129)) ∷ []
unfolding next_move lines.opening clocks.opening next_due threads.opening rank_by
reply_is_before_settling = refl

-- a semaphore by itself: the row of the first semaphore, and then a put at the greatest count
abbrev asked : SemStep → Result Reply Refusal → Made SemStep
asked step answer = record { by = Some 0; step = step; answer = answer }

semaphore_by_itself : Runs semaphore (opened_semaphore 0) (asked get (Err Again) ∷ asked put (Ok Done) ∷ asked get (Ok Done) ∷ asked peek (Ok (Count (pos 0))) ∷ asked put (Ok Done) ∷ asked peek (Ok (Count (pos 1))) ∷ []) (opened_semaphore 1)
semaphore_by_itself = (refl, (refl, (refl, (refl, (refl, (refl, refl))))))

semaphore_at_its_greatest : Runs semaphore (opened_semaphore 2147483647) (asked put (Err Range) ∷ asked peek (Ok (Count (pos 2147483647))) ∷ []) (opened_semaphore 2147483647)
semaphore_at_its_greatest = (refl, (refl, refl))

-- which steps are its own: those of its number, by a caller of the board, and of an answer that was handled
own_steps : part (its_sem 0) ((what_call_does (start (0 ∷ [])) 0 (Put (record { 0 = 0 }))).touches ++ (what_call_does (start (0 ∷ 0 ∷ [])) 0 (Put (record { 0 = 1 }))).touches
    ++ (what_call_does (start (0 ∷ [])) 1 (Put (record { 0 = 0 }))).touches) ≡ asked put (Ok Done) ∷ []
unfolding lines.opening threads.opening rank_by
own_steps = refl

abbrev posted : Made SemStep
posted = record { by = None; step = put; answer = Ok Done }

own_posts : part (its_sem 0) (all_acting (start (0 ∷ 0 ∷ [])) 4 (action.Propagate ∷ action.PostSem (record { 0 = 0 }) ∷ action.PostSem (record { 0 = 1 }) ∷ action.PostSem (record { 0 = 0 }) ∷ [])).0 ≡ posted ∷ posted ∷ []
unfolding lines.opening threads.opening rank_by
own_posts = refl

no_post_of_unhandled : (responding (start (0 ∷ [])) 4 (record { handled = false; actions = record { items = action.PostSem (record { 0 = 0 }) ∷ [] } })).0 ≡ []
unfolding lines.opening threads.opening rank_by
no_post_of_unhandled = refl

-- a history's steps: a put by a callback on the first fire of line 4, and then a look
abbrev entry : Call → Reply → ℕ → Entry
entry asked reply plays = record { caller = record { 0 = 0 }; call = asked; reply = Ok reply; plays = plays }

own_history : part (its_sem 0) (touches_of putting (
    entry (Request (record { 0 = 4 }) Oob 0 0) Done 0 ∷ entry (Arrive (record { 0 = 4 })) Done 1 ∷ entry (Peek (record { 0 = 0 })) (Count (pos 1)) 0 ∷ []
    )) ≡ posted ∷ asked peek (Ok (Count (pos 1))) ∷ []
unfolding next_move lines.opening clocks.opening next_due threads.opening rank_by
own_history = refl

-- what timer 0 does, as the reader answers it
abbrev timer_state : State → Option TimerState
timer_state s = option_map (λ t. t.state) (clocks.timer_at s.clock 0)

clock_1-idle : timer_state (led (start []) (NewTimer 0 0 ∷ StartTimer (record { 0 = 0 }) 0 0 ∷ [])) ≡ Some Idle
unfolding next_move lines.opening clocks.opening next_due threads.opening rank_by
clock_1-idle = refl

-- callback 6 stops timer 0 at its second event
abbrev to_be_stopped : List Call
to_be_stopped = Request (record { 0 = 2 }) Oob 6 0 ∷ NewTimer 0 0 ∷ StartTimer (record { 0 = 0 }) 100 0 ∷ Arrive (record { 0 = 2 }) ∷ []

clock_3-running : timer_state (led (start []) to_be_stopped) ≡ Some (Running 100 0)
unfolding next_move lines.opening clocks.opening next_due threads.opening rank_by
clock_3-running = refl

clock_3-idle : timer_state (led (start []) (to_be_stopped ++ Arrive (record { 0 = 2 }) ∷ [])) ≡ Some Idle
unfolding next_move lines.opening clocks.opening next_due threads.opening rank_by
clock_3-idle = refl

end_of_time-ended : timer_state (led (start []) (NewTimer 0 0 ∷ StartTimer (record { 0 = 0 }) 18446744073709551611 10 ∷ Tick 18446744073709551615 ∷ [])) ≡ Some Ended
unfolding next_move lines.opening clocks.opening next_due threads.opening rank_by
end_of_time-ended = refl

-- an eligible thread holds the in-band line back until it goes in-band
oob_holds_back_inband : map (λ r. r.1) (replies (start []) (Attach (Fifo 10) Oob ∷ Request (record { 0 = 3 }) Inband 0 0 ∷ Arrive (record { 0 = 3 }) ∷ SetStage Inband ∷ []))
    ≡ [] ∷ [] ∷ [] ∷ (Line (record { 0 = 3 }) Inband 1 true ∷ []) ∷ []
unfolding next_move lines.opening clocks.opening next_due threads.opening rank_by
oob_holds_back_inband = refl
