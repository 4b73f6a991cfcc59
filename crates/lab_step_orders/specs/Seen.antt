-- The callers of a machine's words as a machine: a step of it is one turn of one caller.
use Rattle.std.specs.Prelude.{ℕ, ◌+◌, false, List, [], length, map, replicate, Option, Some, None, option_map, slice_get, slice_index, slice_index_or, slice_set}
use Rattle.std.specs.Option.{option_map_or}
use Rattle.evl_kernel.specs.state.States.{State}
use Rattle.lab_orders.specs.Machines.{Machine}
use Rattle.lab_step_orders.specs.Words.{Shared, gate_after, mutex_after}
use Rattle.lab_step_orders.specs.Programs.{ahead_at, limit_of, stage_of, next_call}
use Rattle.lab_step_orders.specs.Told.{answer_line}
use Rattle.lab_step_orders.specs.Cores.{core_after, turn_of, use_of}
use Rattle.lab_step_orders.specs.Visits.{state_after, state_begun}
use Rattle.lab_step_orders.specs.Wrongs.{made_so}
use Rattle.lab_step_orders.specs.declared.crews.Crew.{Crew}
use Rattle.lab_step_orders.specs.declared.steps.Ahead.{Ahead}
use Rattle.lab_step_orders.specs.declared.steps.Place.{Place}
use Rattle.lab_step_orders.specs.declared.steps.Place.TheVariants.{Begins}
use Rattle.lab_step_orders.specs.declared.steps.Taken.{Taken}
use Rattle.lab_step_orders.specs.declared.steps.Then.{Then}
use Rattle.lab_step_orders.specs.declared.steps.Then.TheVariants.{Stands, Answers}
use Rattle.lab_step_orders.specs.declared.steps.Turn.{Turn}
use Rattle.lab_step_orders.specs.declared.steps.WaitChange.{WaitChange}
use Rattle.lab_step_orders.specs.declared.steps.WaitChange.TheVariants.{Same, Begins as BeginsTo, Ends}
use Rattle.lab_step_orders.specs.declared.steps.Waiting.{Waiting}
use Rattle.lab_step_orders.specs.declared.steps.WordStep.{WordStep}
use Rattle.lab_step_orders.specs.declared.steps.WordStep.TheVariants.{AtGate, AtMutex}

-- the words; of each caller where it is, how many of its calls are over, what it was answered and for what it waits; who
-- has the core, and the records of the kernel
pub record Seen : Type 0 where
  pub gates : List Shared
  pub mutexes : List Shared
  pub places : List Place
  pub made : List ℕ
  pub answers : List (List ℕ)
  pub waits : List (Option Waiting)
  pub core : Option Taken
  pub state : State

-- nobody holds it
abbrev pub free_word : ℕ → Shared
free_word callers = record { word = 0; held = replicate callers false }

abbrev pub first_seen : Crew → Seen
first_seen c = record {
  gates = replicate (length c.board.staxes.items) (free_word (length c.callers.items));
  mutexes = replicate (length c.board.mutexes.items) (free_word (length c.callers.items));
  places = map (λ caller. Begins) c.callers.items;
  made = map (λ caller. 0) c.callers.items;
  answers = map (λ caller. []) c.callers.items;
  waits = map (λ caller. None) c.callers.items;
  core = None;
  state = state_begun c;
}

-- the list with the element at a place changed, if there is one
abbrev pub changed_at : {A : Type 0} → (A → A) → ℕ → List A → List A
changed_at f i xs = option_map_or (λ x. slice_set xs i (f x)) (slice_get xs i) xs

-- the words after a turn of the caller k: no step changes none
abbrev pub gates_after : Crew → ℕ → Option WordStep → List Shared → List Shared
gates_after c k None gates = gates
gates_after c k (Some (AtGate stax step)) gates = changed_at (gate_after (limit_of c stax.0) (stage_of c k) k step) stax.0 gates
gates_after c k (Some (AtMutex mutex step)) gates = gates

abbrev pub mutexes_after : ℕ → Option WordStep → List Shared → List Shared
mutexes_after k None mutexes = mutexes
mutexes_after k (Some (AtGate stax step)) mutexes = mutexes
mutexes_after k (Some (AtMutex mutex step)) mutexes = changed_at (mutex_after k step) mutex.0 mutexes

-- after an answer the next call begins
abbrev pub place_after : Then → Place
place_after (Stands place) = place
place_after (Answers answer) = Begins

abbrev pub made_after : Then → ℕ → ℕ
made_after (Stands place) made = made
made_after (Answers answer) made = made + 1

abbrev pub answers_after : Then → List ℕ → List ℕ
answers_after (Stands place) told = told
answers_after (Answers answer) told = answer_line told answer

-- a turn may begin its caller's wait, or end it
abbrev pub wait_after : WaitChange → Option Waiting → Option Waiting
wait_after Same wait = wait
wait_after (BeginsTo now) wait = Some now
wait_after Ends wait = None

abbrev pub after : Crew → Seen → ℕ → Turn → Seen
after c s k turn = record {
  gates = gates_after c k turn.step s.gates;
  mutexes = mutexes_after k turn.step s.mutexes;
  places = slice_set s.places k (place_after turn.then);
  made = slice_set s.made k (made_after turn.then (slice_index s.made k));
  answers = slice_set s.answers k (answers_after turn.then (slice_index_or s.answers k []));
  waits = slice_set s.waits k (wait_after turn.wait (slice_index_or s.waits k None));
  core = core_after turn.core k s.core;
  state = state_after c s.state k turn.visit;
}

-- the next turn of a caller: one that has made all its calls makes none
abbrev pub next_ahead : Crew → Seen → ℕ → Option Ahead
next_ahead c s k = ahead_at c s.gates s.mutexes k (slice_index_or s.waits k None) (slice_index_or s.places k Begins) (next_call c k (slice_index s.made k))

abbrev pub next_turn : Crew → Seen → ℕ → Option Turn
next_turn c s k =
    option_map (made_so c.what_if) (turn_of c s.state k (use_of c k (slice_index s.made k)) s.core (slice_index_or s.places k Begins) (next_ahead c s k))

abbrev pub go : Crew → Seen → ℕ → Option Seen
go c s k = option_map (after c s k) (next_turn c s k)

abbrev pub machine : Crew → Machine Seen
machine c = record { callers = length c.callers.items; go = go c }
