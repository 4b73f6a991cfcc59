-- The rule of a gate's table, which has one word, and what each step on it says.
use Rattle.std.specs.Prelude.{◌≡◌, ℕ, ◌==◌, Some, List, replicate, MatchBool, MatchOption}
use Rattle.evl_base.specs.declared.stage.Stage.{Stage}
use Rattle.evl_words.specs.declared.gate.GateCall.TheVariants.{Enter}
use Rattle.evl_words.specs.declared.gate.GateReply.TheVariants.{Entered, Refused}
use Rattle.atomic_table.specs.Table.{State}
use Rattle.evl_words.specs.Machine.{Run}
use Rattle.evl_words.specs.Events.{Part}
use Rattle.evl_words.specs.Parts.{Tells, OneWord}
use Rattle.evl_words.specs.Hands.{Hand, Dealt, hand_from, first_view}
use Rattle.evl_words.specs.Gate.{Gate, GateEntry, GateStep, open_gate}
use Rattle.evl_words.specs.GateWord.{word_of, word_refusal}
use Rattle.evl_words.specs.GateWorld.{GateView, GateKind, IsGateWorld, GateDoes, GateLooks, GateAppends, looks, exchanges, hold, newcomer}

-- what is kept of a gate's word and of the views of its seats
abbrev pub GatePart : ℕ → ℕ → List GateView → Type 0
GatePart limit = Part (IsGateWorld limit)

abbrev pub GateRule : {S : Type 0} → ℕ → ℕ → State S (Hand GateView) → Type 0
GateRule limit seats = Dealt (OneWord (GatePart limit) seats)

abbrev pub all_seats : ℕ → ℕ → Hand GateView
all_seats limit seats = hand_from 0 (replicate seats (newcomer limit))

-- the view of a hand's first seat
abbrev pub view_in : Hand GateView → GateView
view_in hand = first_view (newcomer 0) hand

-- after this history the gate's word is this one
abbrev pub Shows : ℕ → List GateEntry → ℕ → Type 0
Shows limit log word = (g : Gate) × Run (GateStep limit) open_gate log g × (word ≡ word_of g)

-- rule: A lost exchange answers by the word that it found; if that would let the seat in, `Raced` carries both words.
--   also: GateCalls.Races
--   clauses: StaxGate::{look, exchange}
--   rows: what_the_exchange_found_decides
-- a seat that wants in found this word: a refusal is an entry, and otherwise it only looked
abbrev pub Finds : ℕ → GateView → Stage → ℕ → GateView → Type 0
Finds k v stage word w = (w.held ≡ v.held) × MatchOption (word_refusal v.held.limit word stage) (GateLooks v.held.limit k v w × Shows v.held.limit w.seen word) (λ refusal. GateAppends v.held.limit k v (Enter stage) (Refused refusal) w)

-- the exchange of this word entered the gate, or found another
abbrev pub Enters : ℕ → GateView → Stage → ℕ → ℕ → GateView → Type 0
Enters k v stage old word w = MatchBool (word == old) ((w.held ≡ hold v.held.limit (Some stage)) × GateAppends v.held.limit k v (Enter stage) Entered w) (Finds k v stage word w)

module _ {S : Type 0} where
  -- a step says that it is this event
  abbrev pub does : GateKind → Tells S GateView
  does kind st k m found n = (n.1 ≡ m.1) × GateDoes m.0.held.limit k m.0 kind found n.0

  abbrev pub looked : Stage → Tells S GateView
  looked stage st k m found n = does (looks stage) st k m found n × Finds k m.0 stage found n.0

  abbrev pub entered : Stage → Tells S GateView
  entered stage st k m found n = does (exchanges stage st.first) st k m found n × Enters k m.0 stage st.first found n.0
