-- The trace of a text over a bank of callbacks: the run of its steps, line by line.
use Rattle.std.specs.Prelude.{ℕ, ◌+◌, ◌==◌, List, [], ◌∷◌, ◌++◌, map, if◌then◌else◌, Option, Some, None, Result, Ok, Err}
use Rattle.evl_base.specs.declared.play.Play.{Play}
use Rattle.evl_base.specs.declared.refusal.Refusal.{Refusal}
use Rattle.evl_base.specs.declared.refusal.Refusal.TheVariants.{HistoryFull}
use Rattle.evl_base.specs.declared.reply.Reply.{Reply}
use Rattle.evl_pipeline.specs.declared.plan.Plan.{Plan}
use Rattle.evl_kernel.specs.state.States.{State, Handler}
use Rattle.evl_kernel.specs.state.Openings.{opening}
use Rattle.evl_kernel.specs.histories.Replays.{Outcome, step_outcome}
use Rattle.evl_scenario.specs.declared.faults.Fault.{Fault}
use Rattle.evl_scenario.specs.declared.steps.Step.{Step}
use Rattle.evl_scenario.specs.Lines.{board_line_of, board_line_text, line_text, play_lines}
use Rattle.evl_scenario.specs.Scenarios.{Script, scenario_of}

-- how far a run is: how many entries its history has, and the kernel's records
pub record Moment : Type 0 where
  pub entries : ℕ
  pub state : State

-- what a step does: the number of its entry, where it makes one, its answer, its plays, and the moment after it
pub record Turn : Type 0 where
  pub number : Option ℕ
  pub answer : Result Reply Refusal
  pub plays : List Play
  pub after : Moment

-- rule: A step that finds the history full has a dash for its number.
--   rows: full_history; steps_in_one_array; semaphore_path_3
-- a step that finds the history at its limit
abbrev pub turned_away : Moment → Turn
turned_away m = record { number = None; answer = Err HistoryFull; plays = []; after = m }

-- a step that makes an entry
abbrev pub turn_entered : Moment → Outcome → Turn
turn_entered m o = record {
  number = Some (m.entries + 1);
  answer = o.reply;
  plays = o.plays;
  after = record { entries = m.entries + 1; state = o.after };
}

-- the turn of a step under a limit
unfoldable pub turn : ℕ → Moment → Step → Turn
turn limit m step = if m.entries == limit then turned_away m else turn_entered m (step_outcome m.state step.who.0 step.call)

-- rule: The trace is a function of the text, the limit and the bank's plans: the board's line, then a line for each
--   step, each followed by its plays, indented.
--   also: Runs.script_trace
--   clauses: run
--   rows: no_steps
-- the line of a step, and those of its plays
abbrev pub turn_lines : Step → Turn → List ℕ
turn_lines step t = line_text t.number step t.answer ++ play_lines t.plays

-- the lines of some steps from a moment on
abbrev pub lines_from : ℕ → Moment → List Step → List ℕ
lines_from limit m [] = []
lines_from limit m (step ∷ rest) = turn_lines step (turn limit m step) ++ lines_from limit (turn limit m step).after rest

-- before the first step
abbrev pub beginning : State → Moment
beginning s = record { entries = 0; state = s }

-- what callbacks declare and answer
abbrev pub handlers_of : {C : Type 0} → (C → ℕ) → (C → Plan) → List C → List Handler
handlers_of declared plan bank = map (λ callback. record { kinds = declared callback; plan = plan callback }) bank

-- the trace of a script, with callbacks that declare and answer this
abbrev pub script_trace : List Handler → Script → List ℕ
script_trace bank script =
    board_line_text (board_line_of script.board script.limit) ++ lines_from script.limit (beginning (opening script.board bank)) script.steps

abbrev pub trace_with : List Handler → Result Script Fault → Result (List ℕ) Fault
trace_with bank (Ok script) = Ok (script_trace bank script)
trace_with bank (Err e) = Err e

-- the trace of a text over a bank, under a limit that may be handed in, or the text's fault
abbrev pub trace_of : List Handler → Option ℕ → List ℕ → Result (List ℕ) Fault
trace_of bank given text = trace_with bank (scenario_of given text)
