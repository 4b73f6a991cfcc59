-- A gate and its seats as their callers see them, and what a call did.
use Rattle.std.specs.Prelude.{◌≡◌, ◌≢◌, ◌⊎◌, ℕ, ◌≤◌, Option, Some, None, IsSome, is_some, List, [], ◌∷◌, length, count_by, All}
use mathlib.Core.List.{IsPrefix}
use Rattle.evl_base.specs.declared.stage.Stage.{Stage}
use Rattle.evl_base.specs.declared.numbers.StaxId.{StaxId}
use Rattle.evl_base.specs.declared.refusal.Refusal.{Refusal}
use Rattle.evl_base.specs.declared.refusal.Refusal.TheVariants.{Again, Busy, Limit, Raced}
use Rattle.evl_words.specs.declared.gate.StaxPass.{StaxPass}
use Rattle.evl_words.specs.declared.gate.GateCall.{GateCall}
use Rattle.evl_words.specs.declared.gate.GateCall.TheVariants.{Enter}
use Rattle.evl_words.specs.declared.gate.GateReply.{GateReply}
use Rattle.evl_words.specs.declared.gate.GateReply.TheVariants.{Refused}
use Rattle.atomic_table.specs.Seated.{TableId}
use Rattle.evl_words.specs.Machine.{Run}
use Rattle.evl_words.specs.History.{Fits, SeeOneHistory, entries_of}
use Rattle.evl_words.specs.declared.history.Place.{Place}
use Rattle.evl_words.specs.Hands.{Hand, place}
use Rattle.evl_words.specs.Gate.{Gate, GateEntry, GateStep, open_gate, stage_held}
use Rattle.evl_words.specs.GateWord.{word_of, word_refusal}
use Rattle.evl_words.specs.GateWorld.{GateView, GateKind, GateDoes, GateLooks, GateAppends, looks, exchanges, gate_author, hold, newcomer}
use Rattle.evl_words.specs.GateRule.{Shows, view_in}

-- of which table and gate the seat is, its number, and its view
pub record SeatState : Type 0 where
  pub table : TableId
  pub gate : StaxId
  pub number : ℕ
  pub view : GateView

pub record GateState : Type 0 where
  pub table : TableId
  pub id : StaxId
  pub limit : ℕ
  pub seats : ℕ

-- the seat was made with the gate
pub record IsSeatOf (seat : SeatState) (gate : GateState) : Type 0 where
  pub table : seat.table ≡ gate.table
  pub id : seat.gate ≡ gate.id
  pub limit : seat.view.held.limit ≡ gate.limit

-- only the view of a seat changes, and of what it holds only the stage
pub record IsSameSeat (old new : SeatState) : Type 0 where
  pub table : new.table ≡ old.table
  pub gate : new.gate ≡ old.gate
  pub number : new.number ≡ old.number
  pub limit : new.view.held.limit ≡ old.view.held.limit

-- the seat that has this hand alone, and holds nothing
abbrev pub seat_with : TableId → StaxId → ℕ → Hand GateView → SeatState
seat_with table gate number hand = record { table = table; gate = gate; number = number; view = view_in hand }

-- a seat of this number begins with its own place alone, at which it holds nothing
abbrev pub begins : ℕ → Hand GateView → Type 0
begins number hand = (hand ≡ place number (view_in hand) ∷ []) × ((view_in hand).held.stage ≡ None)

-- rule: A gate is made with no holder and no mark; its seats hold nothing and have seen nothing.
--   also: Gate.open_gate
--   clauses: StaxGate::new
--   rows: each_request_for_a_gate_is_refused_once; limits_and_seats_have_a_range
-- a seat as the gate was made with it
abbrev pub new_seat : GateState → ℕ → SeatState
new_seat gate number = record { table = gate.table; gate = gate.id; number = number; view = newcomer gate.limit }

-- rule: A pass has its seat's and gate's numbers and is spent by leaving. Not to take it to another gate of that number
--   is the caller's duty.
--   rows: a_pass_is_its_seats
abbrev pub IsPassOf : StaxPass → SeatState → Type 0
IsPassOf pass seat = (pass.gate ≡ seat.gate) × (pass.seat ≡ seat.number)

-- the seat made one step of this kind, which is one event
abbrev pub Makes : SeatState → GateKind → SeatState → Type 0
Makes old kind new = (found : ℕ) × GateDoes old.view.held.limit old.number old.view kind found new.view

-- rule: Entering is a load and one exchange, which keeps the mark. A refusal found or a lost exchange ends it.
--   also: GateWord.entered_word; GateWorld.step_word
--   clauses: StaxGate::try_lock: event
-- a seat that wants in makes no step, or looks, or looks and then makes an exchange
abbrev pub Tries : SeatState → Stage → SeatState → Type 0
Tries old stage new = (new ≡ old) ⊎ Makes old (looks stage) new ⊎ ((between : SeatState) × (word : ℕ) × Makes old (looks stage) between × Makes between (exchanges stage word) new)

-- rule: A call answers what the machine answers at the word that its step found. Its entry extends what its seat has
--   seen by others' entries and then its own; no other seat learns anything.
--   also: Events.{IsEvent, world_after, seat_after}; MutexCalls.{Makes, Calls}
--   clauses: StaxGate::{try_lock, unlock, claim, unclaim, peek}; MutexWord::{try_lock, unlock, claim, settle, offer,
--   free, seen_offer, accept, forget}; gate_world_stands
-- the seat made a call that was answered so, and holds the gate at this stage, if any
pub record Calls (old : SeatState) (call : GateCall) (reply : GateReply) (new : SeatState) (stage : Option Stage) : Type 0 where
  pub held : new.view.held ≡ hold old.view.held.limit stage
  pub appends : GateAppends old.view.held.limit old.number old.view call reply new.view

-- rule: `Raced` makes no entry. Its two words were in the gate at two points of one history, neither before what the
--   seat had seen; they differ, and each would let the seat in.
--   clauses: StaxGate::try_lock
--   rows: next_try_after_a_race_enters
-- The two words differ, and each would let the seat in. They stood in the gate at two points of one history, neither before what the seat had seen
pub record Races (old : SeatState) (stage : Stage) (first second : ℕ) (new : SeatState) : Type 0 where
  pub differ : first ≢ second
  pub first_free : word_refusal old.view.held.limit first stage ≡ None
  pub second_free : word_refusal old.view.held.limit second stage ≡ None
  pub earlier : List GateEntry
  pub first_shown : Shows old.view.held.limit earlier first
  pub second_shown : Shows old.view.held.limit new.view.seen second
  pub seen_before : IsPrefix old.view.seen earlier
  pub seen_between : IsPrefix earlier new.view.seen
  pub looks : GateLooks old.view.held.limit old.number old.view new.view

-- refusals: StaxGate::try_lock
--   order: Busy (local), Again, Limit, Raced
--   also: Gate.entry_refusal
-- refusals: StaxGate::look, exchange
--   order: Again, Limit; exchange then Raced
-- Why a seat did not get in, and what was seen. A seat that holds the gate already is refused with no step
abbrev pub FailsToEnter : SeatState → Stage → SeatState → Refusal → Type 0
FailsToEnter old stage new Again = (old.view.held.stage ≡ None) × Calls old (Enter stage) (Refused Again) new None
FailsToEnter old stage new Limit = (old.view.held.stage ≡ None) × Calls old (Enter stage) (Refused Limit) new None
FailsToEnter old stage new (Raced first second) = (old.view.held.stage ≡ None) × (new.view.held ≡ old.view.held) × Races old stage first second new
FailsToEnter old stage new Busy = IsSome old.view.held.stage × (new ≡ old)
FailsToEnter old stage new _ = ⊥

-- the seat looked, and the word that it found would let it in
pub record FindsFree (old : SeatState) (stage : Stage) (word : ℕ) (new : SeatState) : Type 0 where
  pub free : word_refusal old.view.held.limit word stage ≡ None
  pub held : new.view.held ≡ old.view.held
  pub shown : Shows old.view.held.limit new.view.seen word
  pub looks : GateLooks old.view.held.limit old.number old.view new.view

-- rule: `close` gives the word of a legal history that every seat handed in fits, without a stranger's entry; if all
--   are, it counts exactly those that hold it.
--   also: GateCalls.{fits, strangers, count}
--   clauses: StaxGate::close; MutexWord::close
--   rows: a_gate_closes_as_it_stands_whoever_is_handed_in
-- The word shows the last state of a legal history that each of the seats fits, and in which each holds what its view says. No entry is of a seat that the gate was not made with. Its holders are just those of its seats that hold it, where all of them are handed in
pub record Closes (gate : GateState) (seats : List SeatState) (found : ℕ) : Type 0 where
  pub log : List GateEntry
  pub state : Gate
  pub run : Run (GateStep gate.limit) open_gate log state
  pub word : found ≡ word_of state
  pub fits : All (λ s. Fits gate_author log s.number s.view) seats
  pub holds : All (λ s. s.view.held ≡ hold gate.limit (stage_held s.number state.holders)) seats
  pub strangers : (k : ℕ) → gate.seats ≤ k → entries_of gate_author k log ≡ []
  pub count : gate.seats ≤ length seats → length state.holders ≡ count_by (λ s. is_some s.view.held.stage) seats

abbrev pub place_of : SeatState → Place GateView
place_of seat = place seat.number seat.view

-- Two seats of a gate: of what they have seen one is the beginning of the other, and where both hold the gate, they do so at one stage
pub record AreAtGate (p q : Place GateView) : Type 0 where
  pub apart : p.number ≢ q.number
  pub history : SeeOneHistory gate_author p.number p.view q.number q.view
  pub stage : (s t : Stage) → p.view.held.stage ≡ Some s → q.view.held.stage ≡ Some t → s ≡ t

abbrev pub AgreeAtGate : SeatState → SeatState → Type 0
AgreeAtGate one other = AreAtGate (place_of one) (place_of other)
