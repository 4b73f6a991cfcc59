-- A step of the kernel as a function: what the calls from some records on answer, play and leave, and the steps of
-- elements that they make.
use Rattle.std.specs.Prelude.{ℕ, List, [], ◌∷◌, ◌++◌, map, flat_map, Result, Ok, Err}
use Rattle.evl_base.specs.declared.refusal.Refusal.{Refusal}
use Rattle.evl_base.specs.declared.call.Call.{Call}
use Rattle.evl_base.specs.declared.reply.Reply.{Reply}
use Rattle.evl_base.specs.declared.play.Play.{Play}
use Rattle.evl_base.specs.declared.entry.Entry.{Entry}
use Rattle.evl_kernel.specs.state.Limits.{play_limit}
use Rattle.evl_kernel.specs.settling.Paths.{walk_path}
use Rattle.evl_kernel.specs.state.States.{State}
use Rattle.evl_kernel.specs.calls.Effects.{Effect}
use Rattle.evl_kernel.specs.calls.Elements.{Touch, Told}
use Rattle.evl_kernel.specs.calls.Serving.{what_call_does}
use Rattle.evl_kernel.specs.histories.Histories.{History, opened_kernel}
use Rattle.evl_kernel.specs.settling.Settling.{Settling, Move, next_move, after_call}

-- what a call answers, plays and leaves, and the steps of elements that it and its plays made
pub record Outcome : Type 0 where
  pub reply : Result Reply Refusal
  pub plays : List Play
  pub touches : List Touch
  pub after : State

abbrev pub plays_in : List Move → List Play
plays_in moves = map (λ move. move.play) moves

abbrev pub touches_in : List Move → List Touch
touches_in moves = flat_map (λ move. move.touches) moves

-- what is played until nothing is playable, at most so many plays
abbrev pub settled_moves : ℕ → State → List Move × Settling
settled_moves most s = walk_path next_move most (after_call s)

abbrev pub outcome_of : ℕ → State → List Touch → Effect → Outcome
outcome_of most s own (Err refusal) = record { reply = Err refusal; plays = []; touches = own; after = s }
outcome_of most s own (Ok (given, changed)) =
    let path = settled_moves most changed in
    record { reply = Ok given; plays = plays_in path.0; touches = own ++ touches_in path.0; after = path.1.state }

abbrev pub outcome : ℕ → State → Told → Outcome
outcome most s told = outcome_of most s told.touches told.effect

-- as far as one call may play
abbrev pub step_outcome : State → ℕ → Call → Outcome
step_outcome s caller asked = outcome play_limit s (what_call_does s caller asked)

-- an entry counts its plays
abbrev pub replayed : State → Entry → Outcome
replayed s e = outcome e.plays s (what_call_does s e.caller.0 e.call)

-- what each entry answers, plays and leaves, from some records on
abbrev pub outcomes : State → List Entry → List Outcome
outcomes s [] = []
outcomes s (e ∷ entries) = replayed s e ∷ outcomes (replayed s e).after entries

-- the steps of all elements, in order
abbrev pub touches_of : State → List Entry → List Touch
touches_of s entries = flat_map (λ o. o.touches) (outcomes s entries)

-- where the entries lead
abbrev pub led_to : State → List Entry → State
led_to s [] = s
led_to s (e ∷ entries) = led_to (replayed s e).after entries

-- rule: An element's part of a history (the calls that reach it, the actions of handled answers, the waiters that leave
--   it at a deadline, in order) is a run of only that element from its opening, and grows with the history.
--   also: Elements.{part, its_sem, its_flags, its_xbuf, its_mutex}
--   clauses: semaphores_run_by_themselves; parts_grow; flag_groups_run_by_themselves; cross_buffers_run_by_themselves;
--   mutexes_run_by_themselves
--   rows: own_history; own_posts; own_steps
abbrev pub touches : History → List Touch
touches h = touches_of (opened_kernel h) h.entries
