-- A stage exclusion gate as a sequential machine.
use Rattle.std.specs.Prelude.{◌≡◌, ℕ, ◌==◌, nat_lt, nat_le, not, ◌&&◌, if◌then◌else◌, Bool, true, false, Option, Some, None, IsSome, List, [], ◌∷◌, length, All}
use Rattle.evl_base.specs.declared.stage.Stage.{Stage}
use Rattle.evl_base.specs.declared.stage.Stage.TheVariants.{Inband, Oob}
use Rattle.evl_base.specs.declared.refusal.Refusal.{Refusal}
use Rattle.evl_base.specs.declared.refusal.Refusal.TheVariants.{Again, Limit}
use Rattle.evl_words.specs.declared.history.WordEntry.{WordEntry}
use Rattle.evl_words.specs.declared.gate.Left.TheVariants.{Last, Others}
use Rattle.evl_words.specs.declared.gate.GateCall.{GateCall}
use Rattle.evl_words.specs.declared.gate.GateCall.TheVariants.{Enter, Leave, Claim, Unclaim, Peek}
use Rattle.evl_words.specs.declared.gate.GateReply.{GateReply}
use Rattle.evl_words.specs.declared.gate.GateReply.TheVariants.{Entered, Refused, Left as LeftGate, Done, Shown}
use Rattle.evl_words.specs.Machine.{Machine, IsStep}

abbrev pub GateEntry : Type 0
GateEntry = WordEntry GateCall GateReply

pub record Holder : Type 0 where
  pub seat : ℕ
  pub stage : Stage

-- With no holder the stage means nothing
pub record Gate : Type 0 where
  pub stage : Stage
  pub holders : List Holder
  pub marked : Bool

abbrev pub open_gate : Gate
open_gate = record { stage = Inband; holders = []; marked = false }

abbrev pub is_same_stage : Stage → Stage → Bool
is_same_stage Inband Inband = true
is_same_stage Inband Oob = false
is_same_stage Oob Inband = false
is_same_stage Oob Oob = true

-- at which stage a seat holds the gate
abbrev pub stage_held : ℕ → List Holder → Option Stage
stage_held k [] = None
stage_held k (h ∷ hs) = if h.seat == k then Some h.stage else stage_held k hs

abbrev pub without : ℕ → List Holder → List Holder
without k [] = []
without k (h ∷ hs) = if h.seat == k then without k hs else h ∷ without k hs

-- rule: Entry is `Again` while the other stage is in, then `Limit`; else the seat is a holder and the gate has its
--   stage.
--   also: Gate.gate_change
--   rows: two_inband_seats_keep_others_out; stages_take_turns_on_a_quiet_gate
-- why a gate with this many holders of a stage refuses one more of the stage that is wanted
abbrev pub entry_refusal : ℕ → ℕ → Stage → Stage → Option Refusal
entry_refusal limit count stage wanted = if nat_lt 0 count && not (is_same_stage stage wanted) then Some Again else if nat_le limit count then Some Limit else None

abbrev pub answer_to : Option Refusal → GateReply
answer_to None = Entered
answer_to (Some refusal) = Refused refusal

abbrev pub gate_after : Option Refusal → Gate → Gate → Gate
gate_after None g h = h
gate_after (Some refusal) g h = g

-- rule: A seat holds a gate once.
--   also: GateCalls.FailsToEnter
abbrev pub gate_may : Gate → ℕ → GateCall → Type 0
gate_may g by (Enter stage) = stage_held by g.holders ≡ None
gate_may g by Leave = IsSome (stage_held by g.holders)
gate_may g by Claim = Unit {0}
gate_may g by Unclaim = Unit {0}
gate_may g by Peek = Unit {0}

abbrev pub gate_answer : ℕ → Gate → ℕ → GateCall → GateReply
gate_answer limit g by (Enter stage) = answer_to (entry_refusal limit (length g.holders) g.stage stage)
gate_answer limit g by Leave = LeftGate (if length g.holders == 1 then Last g.marked else Others)
gate_answer limit g by Claim = Done
gate_answer limit g by Unclaim = Done
gate_answer limit g by Peek = Shown (length g.holders) g.stage

-- rule: Claim and unclaim change only the mark, `peek` nothing. Without a holder the stage bit means nothing.
--   also: Gate.entry_refusal
abbrev pub gate_change : ℕ → Gate → ℕ → GateCall → Gate
gate_change limit g by (Enter stage) = gate_after (entry_refusal limit (length g.holders) g.stage stage) g record { stage = stage; holders = record { seat = by; stage = stage } ∷ g.holders; marked = g.marked }
gate_change limit g by Leave = record g { holders = without by g.holders }
gate_change limit g by Claim = record g { marked = true }
gate_change limit g by Unclaim = record g { marked = false }
gate_change limit g by Peek = g

-- A seat enters only while it holds nothing, and only a holder leaves
abbrev pub gate_machine : ℕ → Machine Gate GateCall GateReply
gate_machine limit = record { may = gate_may; answer = gate_answer limit; after = gate_change limit }

abbrev pub GateStep : ℕ → Gate → GateEntry → Gate → Type 0
GateStep limit = IsStep (gate_machine limit)

-- rule: All holders are of one stage, at each prefix of a legal history.
--   clauses: holders_have_one_stage
-- all holders are of one stage, the gate's
abbrev pub HasOneStage : Gate → Type 0
HasOneStage g = All (λ h. h.stage ≡ g.stage) g.holders
