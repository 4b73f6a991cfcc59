-- The world of a gate, and the atomic steps that its callers make on it.
use Rattle.std.specs.Prelude.{◌≡◌, ℕ, ◌+◌, ◌-◌, ◌%◌, ◌^◌, ◌≤◌, ◌==◌, if◌then◌else◌, Option, Some, None, is_some, IsSome, bit_and, bit_or, List, [], ◌∷◌, length, count_by}
use mathlib.Core.Option.{some}
use lib.ListN.{get_elem?}
use prog.Atomic.{either}
use Rattle.evl_base.specs.declared.stage.Stage.{Stage}
use Rattle.evl_base.specs.declared.refusal.Refusal.{Refusal}
use Rattle.evl_words.specs.declared.history.View.{View}
use Rattle.evl_words.specs.declared.gate.GateHold.{GateHold}
use Rattle.evl_words.specs.declared.gate.GateCall.{GateCall}
use Rattle.evl_words.specs.declared.gate.GateCall.TheVariants.{Enter, Leave, Claim, Unclaim, Peek}
use Rattle.evl_words.specs.declared.gate.GateReply.{GateReply}
use Rattle.evl_words.specs.declared.gate.GateReply.TheVariants.{Entered, Refused, Left, Done, Shown}
use Rattle.evl_words.specs.History.{Looks, Appends, view_of}
use Rattle.evl_words.specs.Events.{World, Steps, IsWorld, Does}
use Rattle.evl_words.specs.Dealings.{Dealing}
use Rattle.evl_words.specs.Gate.{Gate, GateEntry, GateStep, open_gate, stage_held}
use Rattle.evl_words.specs.GateWord.{word_of, word_refusal, entered_word, left_in, count_in, stage_in}

abbrev pub GateView : Type 0
GateView = View GateEntry GateHold

abbrev pub GateWorld : Type 0
GateWorld = World GateEntry GateHold

abbrev pub GateDealing : Type 0
GateDealing = Dealing GateEntry GateHold

abbrev pub gate_author : GateEntry → ℕ
gate_author e = e.by

abbrev pub gate_entry : ℕ → GateCall → GateReply → GateEntry
gate_entry by call reply = record { by = by; call = call; reply = reply }

abbrev pub hold : ℕ → Option Stage → GateHold
hold limit stage = record { limit = limit; stage = stage }

-- the view of a seat that has seen nothing
abbrev pub newcomer : ℕ → GateView
newcomer limit = view_of [] [] (hold limit None)

-- The word shows the gate, whose holders are the seats that hold it, each at its stage
pub record GateTie (limit found : ℕ) (g : Gate) (held : List GateHold) : Type 0 where
  pub bounded : limit ≤ 1000
  pub word : found ≡ word_of g
  pub holds : (seat : ℕ) (h : GateHold) → get_elem? held seat ≡ some h → h ≡ hold limit (stage_held seat g.holders)
  pub count : length g.holders ≡ count_by (λ h. is_some h.stage) held

-- what holds of a gate's world after any list of events
abbrev pub IsGateWorld : ℕ → GateWorld → Type 0
IsGateWorld limit = IsWorld gate_author (GateStep limit) open_gate (GateTie limit)

-- rule: The steps are a load, an exchange, a subtraction, a bitwise or and a bitwise and; each is one event of some
--   consistent world.
--   also: GateWorld.gate_steps; Dealings.DealingEvent
-- `looks` is the load before an exchange by a seat that wants in at a stage, `exchanges` that of the word that it found
pub data GateKind : Type 0 where
  looks : Stage → GateKind
  exchanges : Stage → ℕ → GateKind
  leaves : GateKind
  claims : GateKind
  unclaims : GateKind
  peeks : GateKind

-- A seat that holds nothing enters, by the exchange of a word that would let it in, and one that holds the gate leaves
abbrev pub step_may : ℕ → GateView → GateKind → Type 0
step_may k v (looks stage) = v.held.stage ≡ None
step_may k v (exchanges stage old) = (v.held.stage ≡ None) × (word_refusal v.held.limit old stage ≡ None)
step_may k v leaves = IsSome v.held.stage
step_may k v claims = Unit {0}
step_may k v unclaims = Unit {0}
step_may k v peeks = Unit {0}

-- rule: Leaving is one subtraction; the last to leave learns whether the mark is set.
--   also: Gate.gate_answer
--   rows: the_last_to_leave_is_told_of_a_claim
abbrev pub step_word : ℕ → ℕ → GateView → GateKind → ℕ
step_word found k v (looks stage) = found
step_word found k v (exchanges stage old) = either (found == old) (entered_word old stage) found
step_word found k v leaves = (found + (2 ^ 64 - 1)) % 2 ^ 64
step_word found k v claims = bit_or found 2147483648
step_word found k v unclaims = bit_and found 18446744071562067967
step_word found k v peeks = found

-- a seat that wants in makes an entry only where it is refused
abbrev pub refused_entries : ℕ → Stage → Option Refusal → List GateEntry
refused_entries k stage None = []
refused_entries k stage (Some refusal) = gate_entry k (Enter stage) (Refused refusal) ∷ []

abbrev pub step_entries : ℕ → ℕ → GateView → GateKind → List GateEntry
step_entries found k v (looks stage) = refused_entries k stage (word_refusal v.held.limit found stage)
step_entries found k v (exchanges stage old) = if found == old then gate_entry k (Enter stage) Entered ∷ [] else refused_entries k stage (word_refusal v.held.limit found stage)
step_entries found k v leaves = gate_entry k Leave (Left (left_in found)) ∷ []
step_entries found k v claims = gate_entry k Claim Done ∷ []
step_entries found k v unclaims = gate_entry k Unclaim Done ∷ []
step_entries found k v peeks = gate_entry k Peek (Shown (count_in found) (stage_in found)) ∷ []

abbrev pub step_held : ℕ → ℕ → GateView → GateKind → GateHold
step_held found k v (looks stage) = v.held
step_held found k v (exchanges stage old) = if found == old then hold v.held.limit (Some stage) else v.held
step_held found k v leaves = hold v.held.limit None
step_held found k v claims = v.held
step_held found k v unclaims = v.held
step_held found k v peeks = v.held

abbrev pub gate_steps : Steps GateEntry GateHold GateKind
gate_steps = record { may = step_may; word = step_word; entries = step_entries; held = step_held }

-- one step of the seat k, which is one event
abbrev pub GateDoes : ℕ → ℕ → GateView → GateKind → ℕ → GateView → Type 0
GateDoes limit = Does gate_author (GateStep limit) open_gate (GateTie limit) gate_steps

abbrev pub GateLooks : ℕ → ℕ → GateView → GateView → Type 0
GateLooks limit k v w = Looks gate_author (GateStep limit) open_gate k v w

abbrev pub GateAppends : ℕ → ℕ → GateView → GateCall → GateReply → GateView → Type 0
GateAppends limit k v call reply w = Appends gate_author (GateStep limit) open_gate k v (gate_entry k call reply) w
