-- The callers of a scenario as a machine: a caller's step is the kernel's.
use Rattle.std.specs.Prelude.{ℕ, ◌≡◌, ◌+◌, ◌<◌, ◌⊎◌, Bool, true, false, not, ◌&&◌, ◌||◌, ◌==◌, if◌then◌else◌, List, [], ◌∷◌, ◌++◌, length, map, codes, Option, Some, None, is_none, option_and_then, Ok, Err, take, drop, slice_get, slice_index, slice_index_or, slice_set, Result}
use Rattle.std.specs.Option.{option_map_or}
use Rattle.std.specs.Str.{is_utf8}
use Rattle.std.specs.Str.Lines.{lines}
use Rattle.evl_base.specs.Reply.{outcome_text}
use Rattle.evl_base.specs.declared.refusal.Refusal.{Refusal}
use Rattle.evl_base.specs.declared.reply.Reply.{Reply}
use Rattle.evl_base.specs.declared.stage.Stage.{Stage}
use Rattle.evl_base.specs.declared.stage.Stage.TheVariants.{Oob, Inband}
use Rattle.evl_sched.specs.Picks.{picked}
use Rattle.evl_sched.specs.Threads.{is_attached, stage_of}
use Rattle.evl_kernel.specs.state.States.{State, Handler}
use Rattle.evl_kernel.specs.state.Openings.{opening}
use Rattle.evl_kernel.specs.histories.Replays.{Outcome, step_outcome}
use Rattle.evl_kernel.specs.calls.ThreadCalls.{rank_of}
use Rattle.evl_kernel.specs.waiting.Waits.{is_waiting, has_ended}
use Rattle.evl_scenario.specs.Scenarios.{Script, scenario_of}
use Rattle.evl_scenario.specs.declared.faults.Fault.TheVariants.{Memory, Text}
use Rattle.evl_scenario.specs.declared.steps.Step.{Step}
use Rattle.lab_orders.specs.Machines.{Machine}
use Rattle.lab_scenario_orders.specs.Splits.{is_mixed, scenario_part, setup_count}
use Rattle.lab_scenario_orders.specs.declared.callers.Callers.{Callers}
use Rattle.lab_scenario_orders.specs.declared.texts.TextFault.{TextFault}
use Rattle.lab_scenario_orders.specs.declared.texts.TextFault.TheVariants.{Scenario, Mixed, Limit}

-- how many steps of each caller were made, what it was answered, and the kernel's records
pub record Seen : Type 0 where
  pub made : List ℕ
  pub answers : List (List ℕ)
  pub state : State

-- the records after these steps
abbrev pub set_up : State → List Step → State
set_up s [] = s
set_up s (step ∷ steps) = set_up (step_outcome s step.who.0 step.call).after steps

-- the records before the first caller's step
abbrev pub state_begun : Callers → List Handler → State
state_begun c bank = set_up (opening c.board bank) c.setup.items

abbrev pub first_seen : Callers → List Handler → Seen
first_seen c bank = record {
  made = map (λ caller. 0) c.callers.items;
  answers = map (λ caller. []) c.callers.items;
  state = state_begun c bank;
}

-- the place of the next step of a caller that has made so many, and the step
abbrev pub next_place : Callers → ℕ → ℕ → Option ℕ
next_place c n made = option_and_then (λ caller. slice_get caller.places.items made) (slice_get c.callers.items n)

abbrev pub next_step : Callers → ℕ → ℕ → Option Step
next_step c n made = option_and_then (slice_get c.steps.items) (next_place c n made)

-- a thread's wait goes on: the thread is blocked
abbrev pub goes_on : State → ℕ → Bool
goes_on s who = is_waiting s who && not (has_ended s who)

-- The turn of a thread on this stage, by who is picked: an out-of-band one's is while it is picked, an in-band one's while
-- nobody is.
abbrev pub is_turn : Stage → ℕ → Option ℕ → Bool
is_turn Oob who chosen = option_map_or (λ thread. thread == who) chosen false
is_turn Inband who chosen = is_none chosen

-- and a thread that isn't attached always has its turn
abbrev pub has_turn : State → ℕ → Bool
has_turn s who = if is_attached s.sched who then is_turn (stage_of s.sched who) who (picked (rank_of s) s.sched) else true

-- a thread can make no step: its wait goes on, or it hasn't its turn where steps are made as threads are picked
abbrev pub is_held : Bool → State → ℕ → Bool
is_held as_picked s who = goes_on s who || (as_picked && not (has_turn s who))

-- what was answered so far, with one answer more
abbrev pub answer_line : List ℕ → Result Reply Refusal → List ℕ
answer_line told reply = (told ++ codes " -> ") ++ outcome_text reply

-- after a step of this caller with this outcome
abbrev pub after : Seen → ℕ → Outcome → Seen
after seen n o = record {
  made = slice_set seen.made n (slice_index seen.made n + 1);
  answers = slice_set seen.answers n (answer_line (slice_index_or seen.answers n []) o.reply);
  state = o.after;
}

-- A caller that has no step more makes none, and none does one that is held.
abbrev pub step_of : Bool → Seen → ℕ → Step → Option Seen
step_of as_picked seen n step = if is_held as_picked seen.state step.who.0 then None else Some (after seen n (step_outcome seen.state step.who.0 step.call))

abbrev pub go : Callers → Seen → ℕ → Option Seen
go c seen n = option_and_then (step_of c.as_picked seen n) (next_step c n (slice_index seen.made n))

abbrev pub machine : Callers → Machine Seen
machine c = record { callers = length c.callers.items; go = go c }

-- the text's scenario is of just this board, limit and steps, of which as many of the first are set up as stand so in the text
pub record IsSetUp (text : List ℕ) (c : Callers) : Type 0 where
  pub script : Script
  pub scenario : scenario_of None (scenario_part text) ≡ Ok script
  pub unmixed : is_mixed (lines text) ≡ false
  pub board : c.board ≡ script.board
  pub limit : c.limit ≡ script.limit
  pub setup : c.setup.items ≡ take (setup_count text) script.steps
  pub steps : c.steps.items ≡ drop (setup_count text) script.steps

-- Why a text of callers is refused: it isn't UTF-8; or else a step is before one that is set up; or else its scenario
-- can't be read, or has more steps than its history may have entries. Or memory ran out.
abbrev pub IsRefused : List ℕ → TextFault → Type 0
IsRefused text (Scenario fault) =
    (fault ≡ Memory) ⊎ (((is_utf8 text ≡ false) × (fault ≡ Text)) ⊎ ((is_mixed (lines text) ≡ false) × (scenario_of None (scenario_part text) ≡ Err fault)))
IsRefused text Mixed = is_mixed (lines text) ≡ true
IsRefused text Limit = (is_mixed (lines text) ≡ false) × (script : Script) × (scenario_of None (scenario_part text) ≡ Ok script) × (script.limit < length script.steps)
