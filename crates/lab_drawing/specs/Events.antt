-- Interrupt lines in a trace: where one has a callback, and where an event goes.
use Rattle.std.specs.Prelude.{ℕ, ◌==◌, nat_eq, Bool, not, List, codes, bytes_eq, filter, if◌then◌else◌, Option, Some, None, option_and_then, option_map}
use Rattle.std.specs.List.{list_any, starts_with}
use Rattle.evl_base.specs.declared.stage.Stage as stages
use Rattle.evl_base.specs.declared.stage.Stage.TheVariants.{Inband, Oob}
use Rattle.lab_traces.specs.declared.entries.EntryLine.{EntryLine}
use Rattle.lab_traces.specs.declared.traces.Says.{Says}
use Rattle.lab_traces.specs.declared.traces.Says.TheVariants.{Entry}
use Rattle.lab_drawing.specs.Lanes.{is_lane, with_lane}
use Rattle.lab_drawing.specs.Named.{number_at, value_of}
use Rattle.lab_drawing.specs.Words.{outcome}
use Rattle.lab_drawing.specs.declared.events.OnLines.{OnLines}
use Rattle.lab_drawing.specs.declared.events.OnLines.TheVariants.{Requests, Frees, Posts}
use Rattle.lab_drawing.specs.declared.lanes.Lane.{Lane}
use Rattle.lab_drawing.specs.declared.lanes.Lane.TheVariants.{Clock, Line, Stage}

-- the lane of an interrupt line on a stage; line 0 is the clock's, out-of-band
abbrev pub lane_on : stages.Stage → ℕ → Lane
lane_on Oob number = if number == 0 then Clock else Line Oob number
lane_on Inband number = Line Inband number

-- the lane of the stage of a line
abbrev pub stage_beside : Lane → Lane
stage_beside (Line stage number) = Stage stage
stage_beside lane = lane

-- the lines that have a callback, each by its lane
abbrev pub has_callback : List Lane → Lane → Bool
has_callback lines lane = list_any (is_lane lane) lines

-- an interrupt goes to the out-of-band stage where the line has a callback there, else to the in-band stage
abbrev pub target : List Lane → ℕ → Lane
target lines number = if has_callback lines (lane_on Oob number) then lane_on Oob number else lane_on Inband number

-- ---- what a call does on lines

abbrev pub stage_named : List ℕ → Option stages.Stage
stage_named value =
    if bytes_eq value (codes "oob") then Some Oob
    else if bytes_eq value (codes "inband") then Some Inband
    else None

abbrev pub line_at : List ℕ → Option ℕ
line_at call = number_at call (codes " line=")

-- the line that a call names, on the stage that it names
abbrev pub lane_called : List ℕ → Option Lane
lane_called call = option_and_then (λ stage. option_map (lane_on stage) (line_at call)) (option_and_then stage_named (value_of call (codes " stage=")))

-- one that makes an event
abbrev pub events_of : List Lane → List ℕ → Option OnLines
events_of lines call =
    if starts_with nat_eq call (codes "post ") then option_map Posts (lane_called call)
    else if starts_with nat_eq call (codes "arrive ") then option_map (λ number. Posts (target lines number)) (line_at call)
    else None

abbrev pub called_on : List Lane → List ℕ → Option OnLines
called_on lines call =
    if starts_with nat_eq call (codes "request ") then option_map Requests (lane_called call)
    else if starts_with nat_eq call (codes "free ") then option_map Frees (lane_called call)
    else events_of lines call

-- of a call that is answered `done`
abbrev pub entry_on : List Lane → EntryLine → Option OnLines
entry_on lines entry = if bytes_eq (outcome entry.answer.now) (codes "done") then called_on lines entry.call.now else None

abbrev pub said_on : List Lane → Says → Option OnLines
said_on lines (Entry entry) = entry_on lines entry
said_on lines _ = None

-- ---- the lines that have a callback after a call

abbrev pub without : Lane → List Lane → List Lane
without lane lines = filter (λ line. not (is_lane line lane)) lines

abbrev pub lines_after : List Lane → Option OnLines → List Lane
lines_after lines (Some (Requests lane)) = with_lane lane lines
lines_after lines (Some (Frees lane)) = without lane lines
lines_after lines _ = lines
