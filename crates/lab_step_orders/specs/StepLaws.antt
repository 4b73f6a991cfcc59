-- All that each order of atomic steps keeps: each gate and each mutex has a world of its own at every moment.
use Rattle.std.specs.Prelude.{ℕ, ◌≡◌, ◌≤◌, Bool, true, List, [], length, replicate, Option, Some, None, if◌then◌else◌, slice_get}
use Rattle.std.specs.List.{list_all}
use mathlib.Core.Option.{some}
use lib.ListN.{get_elem?}
use Rattle.evl_base.specs.Limits.{stax_fits, thread_limit}
use Rattle.evl_base.specs.declared.stage.Stage.{Stage}
use Rattle.evl_words.specs.GateWorld.{GateWorld, GateView, GateKind, IsGateWorld, gate_steps, hold, newcomer as gate_newcomer}
use Rattle.evl_words.specs.MutexWorld.{MutexWorld, MutexView, MutexKind, IsMutexWorld, mutex_steps, owns, newcomer as mutex_newcomer}
use Rattle.evl_words.specs.Machine.{Run}
use Rattle.evl_words.specs.Events.{Event, Happens}
use Rattle.lab_orders.specs.Machines.{Run as Order, IsRun}
use Rattle.lab_step_orders.specs.Programs.{limit_of, stage_of}
use Rattle.lab_step_orders.specs.Seen.{Seen, first_seen, machine}
use Rattle.lab_step_orders.specs.Words.{Shared, holds}
use Rattle.lab_step_orders.specs.declared.crews.Crew.{Crew}

-- its limits are those of a board, and it has no more callers than a board has threads
pub record IsCrew (c : Crew) : Type 0 where
  pub few : length c.callers.items ≤ thread_limit
  pub fits : list_all stax_fits c.board.staxes.items ≡ true

-- at which stage a caller on this stage holds a stax, if it does
abbrev pub held_stage : Stage → Bool → Option Stage
held_stage stage held = if held then Some stage else None

-- a gate's and a mutex's world before any step: the word is 0, and no seat holds anything
abbrev pub opened_gate : ℕ → ℕ → GateWorld
opened_gate limit seats = record { word = 0; log = []; views = replicate seats (gate_newcomer limit) }

abbrev pub opened_mutex : ℕ → MutexWorld
opened_mutex seats = record { word = 0; log = []; views = replicate seats (mutex_newcomer seats) }

-- A gate's world lies over the gate i: from the opening of a gate with a seat for each caller events lead there, each an
-- atomic step that its seat may make; it is consistent, with this word, and each seat holds the gate just where its caller does.
pub record LiesAtGate (c : Crew) (i : ℕ) (g : Shared) (w : GateWorld) : Type 0 where
  pub events : List (Event GateKind)
  pub run : Run (Happens gate_steps) (opened_gate (limit_of c i) (length c.callers.items)) events w
  pub stands : IsGateWorld (limit_of c i) w
  pub word : w.word ≡ g.word
  pub long : length w.views ≡ length c.callers.items
  pub wide : length g.held ≡ length c.callers.items
  pub seats : (k : ℕ) (v : GateView) → get_elem? w.views k ≡ some v → v.held ≡ hold (limit_of c i) (held_stage (stage_of c k) (holds g k))

-- and so a mutex's world over a mutex of so many callers
pub record LiesAtMutex (callers : ℕ) (m : Shared) (w : MutexWorld) : Type 0 where
  pub events : List (Event MutexKind)
  pub run : Run (Happens mutex_steps) (opened_mutex callers) events w
  pub stands : IsMutexWorld w
  pub word : w.word ≡ m.word
  pub long : length w.views ≡ callers
  pub wide : length m.held ≡ callers
  pub sized : (k : ℕ) (v : MutexView) → get_elem? w.views k ≡ some v → v.held.seats ≡ callers
  pub seats : (k : ℕ) (v : MutexView) → get_elem? w.views k ≡ some v → owns v.held.role ≡ holds m k

-- rule: Wherever steps lead, each word and what the callers hold of it are those of a world of a gate or mutex after
--   events that its seats may make, from its opening. So callers of both stages never hold one stax, and at most one
--   has a mutex.
--   also: StepLaws.{NoStaxIsShared, OneHasTheMutex}
--   clauses: words_stand; no_stax_is_shared; one_has_the_mutex
-- Wherever steps lead, each stax has some world of a gate, and each mutex some world of a mutex.
abbrev pub WordsStand : Type 0
WordsStand = (c : Crew) (r : Order Seen) → IsCrew c → IsRun (machine c) (first_seen c) r
    → ((i : ℕ) (g : Shared) → slice_get r.at.gates i ≡ Some g → (w : GateWorld) × LiesAtGate c i g w)
    × ((i : ℕ) (m : Shared) → slice_get r.at.mutexes i ≡ Some m → (w : MutexWorld) × LiesAtMutex (length c.callers.items) m w)

-- So wherever steps lead, two callers that hold one stax are of one stage,
abbrev pub NoStaxIsShared : Type 0
NoStaxIsShared = (c : Crew) (r : Order Seen) → IsCrew c → IsRun (machine c) (first_seen c) r → (i : ℕ) (g : Shared) → slice_get r.at.gates i ≡ Some g
    → (j k : ℕ) → holds g j ≡ true → holds g k ≡ true → stage_of c j ≡ stage_of c k

-- and no two callers have one mutex.
abbrev pub OneHasTheMutex : Type 0
OneHasTheMutex = (c : Crew) (r : Order Seen) → IsCrew c → IsRun (machine c) (first_seen c) r → (i : ℕ) (m : Shared) → slice_get r.at.mutexes i ≡ Some m
    → (j k : ℕ) → holds m j ≡ true → holds m k ≡ true → j ≡ k
