-- How the machine of a scenario is before its first step and after each, as lines of JSON.
use Rattle.std.specs.Prelude.{ℕ, List, [], ◌∷◌, ◌++◌, length, if◌then◌else◌, Result, Ok, Err}
use Rattle.evl_kernel.specs.state.Openings.{can_open, opening}
use Rattle.evl_kernel.specs.state.States.{Handler}
use Rattle.evl_scenario.specs.Scenarios.{Script}
use Rattle.evl_scenario.specs.declared.faults.Fault.{Fault}
use Rattle.evl_scenario.specs.declared.steps.Step.{Step}
use Rattle.evl_shell.specs.Runs.{Moment, beginning, turn}
use Rattle.lab_json.specs.States.{moment_json}

-- after each of some steps, from a moment of a run on; a step that finds the history full changes nothing
abbrev pub moments_from : List ℕ → ℕ → Moment → List Step → List ℕ
moments_from file limit m [] = []
moments_from file limit m (step ∷ rest) = moment_json file (turn limit m step).after ++ moments_from file limit (turn limit m step).after rest

-- and before the first one
abbrev pub through_moments : List ℕ → ℕ → Moment → List Step → List ℕ
through_moments file limit m steps = moment_json file m ++ moments_from file limit m steps

-- of a script over these callbacks, where a kernel can be opened so: it can't over more callbacks than one has
abbrev pub script_moments : List ℕ → List Handler → Script → List ℕ
script_moments file bank script =
    if can_open script.board (length bank) script.limit
    then through_moments file script.limit (beginning (opening script.board bank)) script.steps
    else []

-- rule: A scenario has one such line before its first step and one after each, in order, over the callbacks and under
--   the limit that are given.
--   clauses: write_states
--   rows: each_step_has_a_state
-- of what a text is read as; of no script nothing
abbrev pub moments_json : List ℕ → List Handler → Result Script Fault → List ℕ
moments_json file bank (Ok script) = script_moments file bank script
moments_json file bank (Err fault) = []
