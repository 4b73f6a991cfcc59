-- The picture of a machine that was asked for the steps of a scenario.
use Rattle.std.specs.Prelude.{◌≡◌, ℕ, List, map, None, Ok}
use Rattle.evl_kernel.specs.state.States.{Handler}
use Rattle.evl_shell.specs.Runs.{trace_of}
use Rattle.lab_caller_pictures.specs.Drawings.{IsPicture, scenario}
use Rattle.lab_traces.specs.declared.traces.TraceLine.{TraceLine}
use Rattle.lab_drawing.specs.Marks.{all_marked, told_of}
use Rattle.lab_drawing.specs.Shapes.{HasPages}
use Rattle.lab_drawing.specs.declared.marks.Mark.{Mark}
use Rattle.lab_draws.specs.Draws.{AreLinesOf}
use Rattle.lab_draws.specs.declared.machines.Pictured.{Pictured}
use Rattle.lab_streams.specs.Texts.{text_in}

-- the first page of the picture of these lines, which a scenario has over a bank, and how many pages they take
abbrev pub IsPicturedOf : List Handler → List ℕ → List TraceLine → Pictured → Type 0
IsPicturedOf bank text lines pictured =
    (marks : List Mark) × (map told_of marks ≡ all_marked lines) × HasPages marks pictured.pages
    × IsPicture (scenario bank text) None marks 0 pictured.picture.items

-- of the lines of a trace
abbrev pub IsPicturedTrace : List Handler → List ℕ → List ℕ → Pictured → Type 0
IsPicturedTrace bank text made pictured = (lines : List TraceLine) × AreLinesOf made lines × IsPicturedOf bank text lines pictured

-- of the trace of a scenario over a bank
abbrev pub IsPictured : List Handler → List ℕ → Pictured → Type 0
IsPictured bank text pictured = (made : List ℕ) × (trace_of bank None text ≡ Ok made) × IsPicturedTrace bank text (text_in made) pictured
