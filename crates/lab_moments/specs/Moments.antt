-- The part of a run that a picture shows: the moment after each step.
use Rattle.std.specs.Prelude.{ℕ, List, [], ◌∷◌, length, filter_map, if◌then◌else◌, Result, Ok, Err}
use Rattle.lab_drawing.specs.declared.lanes.Lane.{Lane}
use Rattle.lab_drawing.specs.declared.moments.Moment.{Moment}
use Rattle.lab_drawing.specs.declared.moments.Standing.{Standing}
use Rattle.evl_kernel.specs.state.Openings.{can_open, opening}
use Rattle.evl_kernel.specs.state.States.{Handler, State, date}
use Rattle.evl_scenario.specs.Scenarios.{Script}
use Rattle.evl_scenario.specs.declared.faults.Fault.{Fault}
use Rattle.evl_scenario.specs.declared.steps.Step.{Step}
use Rattle.evl_shell.specs.Runs as runs
use Rattle.evl_shell.specs.Runs.{beginning, turn}
use Rattle.lab_moments.specs.Standings.{stands}

-- a date, and the states of those lanes that show something, in order
abbrev pub Shown : Type 0
Shown = ℕ × List Standing

-- what a moment shows
abbrev pub moment_shown : Moment → Shown
moment_shown m = (m.date, m.standings.items)

-- what a state of the kernel shows of these lanes
abbrev pub shown_at : List Lane → State → Shown
shown_at lanes s = (date s, filter_map (stands s) lanes)

-- what the state after each of some steps shows, from a moment of a run on; a step that finds the history full changes none
abbrev pub shown_from : List Lane → ℕ → runs.Moment → List Step → List Shown
shown_from lanes limit m [] = []
shown_from lanes limit m (step ∷ rest) = shown_at lanes (turn limit m step).after.state ∷ shown_from lanes limit (turn limit m step).after rest

-- of a script over these callbacks, where a kernel can be opened so: it can't over more callbacks than one has
abbrev pub script_shown : List Lane → List Handler → Script → List Shown
script_shown lanes bank script =
    if can_open script.board (length bank) script.limit
    then shown_from lanes script.limit (beginning (opening script.board bank)) script.steps
    else []

-- rule: A scenario over copies of callbacks has a moment after each step; one that finds the history full changes
--   nothing. No scenario, or more than 64 callbacks: no moment.
--   clauses: shown_of; moments_of
-- of what a text is read as; of no script nothing
abbrev pub shown_of : List Lane → List Handler → Result Script Fault → List Shown
shown_of lanes bank (Ok script) = script_shown lanes bank script
shown_of lanes bank (Err fault) = []
