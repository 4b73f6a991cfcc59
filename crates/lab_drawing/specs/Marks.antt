-- The marks of a picture: what each says of its line.
use Rattle.std.specs.Prelude.{ℕ, Bool, true, false, List, [], ◌∷◌, ◌++◌, Option, Some, None, option_map, option_to_list, if◌then◌else◌}
use Rattle.evl_base.specs.declared.play.Play.TheVariants as play
use Rattle.evl_base.specs.declared.play.Play as played
use Rattle.lab_traces.specs.declared.traces.Says.{Says}
use Rattle.lab_traces.specs.declared.traces.Says.TheVariants.{Board, Entry, Play}
use Rattle.lab_traces.specs.declared.traces.TraceLine.{TraceLine}
use Rattle.lab_drawing.specs.Events.{has_callback, lines_after, said_on, stage_beside}
use Rattle.lab_drawing.specs.Named.{entry_names, entry_shape}
use Rattle.lab_drawing.specs.declared.events.OnLines.{OnLines}
use Rattle.lab_drawing.specs.declared.events.OnLines.TheVariants.{Requests, Frees, Posts}
use Rattle.lab_drawing.specs.declared.lanes.Lane.{Lane}
use Rattle.lab_drawing.specs.declared.lanes.Lane.TheVariants.{Thread, Timer, Clock, Line}
use Rattle.lab_drawing.specs.declared.marks.Mark.{Mark}
use Rattle.lab_drawing.specs.declared.marks.Shape.{Shape}
use Rattle.lab_drawing.specs.declared.marks.Shape.TheVariants.{Played, Unhandled, Arrived, Spurious}

abbrev pub line_of : Mark → List ℕ
line_of mark = mark.line.now

-- a mark that isn't a play's
abbrev pub is_called : Shape → Bool
is_called Played = false
is_called Unhandled = false
is_called _ = true

abbrev pub is_entry : Mark → Bool
is_entry mark = is_called mark.shape

abbrev pub play_lane : played.Play → Lane
play_lane play.Clock = Clock
play_lane (play.Timer timer count missed handled) = Timer timer.0
play_lane (play.Deadline thread) = Thread thread.0
play_lane (play.Line line stage count handled) = Line stage line.0

abbrev pub fire_shape : Bool → Shape
fire_shape true = Played
fire_shape false = Unhandled

abbrev pub play_shape : played.Play → Shape
play_shape (play.Timer timer count missed handled) = fire_shape handled
play_shape (play.Line line stage count handled) = fire_shape handled
play_shape _ = Played

-- what a mark has: its line, its lane, the lane that it names, and how it looks
pub record Told : Type 0 where
  pub line : List ℕ
  pub lane : Lane
  pub names : Option Lane
  pub shape : Shape

abbrev pub told_of : Mark → Told
told_of mark = record { line = mark.line.now; lane = mark.lane; names = mark.names; shape = mark.shape }

-- a call is marked in the lane of its thread, a play in its own, where it names nothing; a board isn't marked
abbrev pub marked_by : Says → List ℕ → Option Told
marked_by (Board line) text = None
marked_by (Entry line) text =
    Some (record { line = text; lane = Thread line.thread; names = entry_names line.call.now line.answer.now; shape = entry_shape line.call.now line.answer.now })
marked_by (Play p) text = Some (record { line = text; lane = play_lane p; names = None; shape = play_shape p })

abbrev pub mark_of : TraceLine → Option Told
mark_of line = marked_by line.says line.text.now

-- ---- interrupt lines

abbrev pub naming : Lane → Told → Told
naming lane told = record told { names = Some lane }

-- an event on a line: it is pending there, or spurious, which is marked at its stage
abbrev pub posted : List Lane → Lane → Told → Told
posted lines lane told =
    if has_callback lines lane
    then record { line = told.line; lane = told.lane; names = Some lane; shape = Arrived }
    else record { line = told.line; lane = told.lane; names = Some (stage_beside lane); shape = Spurious }

-- a call that does this on lines names the line
abbrev pub done_on : List Lane → Option OnLines → Told → Told
done_on lines None told = told
done_on lines (Some (Requests lane)) told = naming lane told
done_on lines (Some (Frees lane)) told = naming lane told
done_on lines (Some (Posts lane)) told = posted lines lane told

-- the mark of a line of a trace, where these interrupt lines have a callback
abbrev pub marked_at : List Lane → TraceLine → Option Told
marked_at lines line = option_map (done_on lines (said_on lines line.says)) (mark_of line)

-- of the lines of a trace, in order
abbrev pub marked_behind : List Lane → List TraceLine → List Told
marked_behind lines [] = []
marked_behind lines (line ∷ rest) = option_to_list (marked_at lines line) ++ marked_behind (lines_after lines (said_on lines line.says)) rest

-- rule: A line has a callback on a stage from a `request` to a `free` that are done; the clock's always has one. Both
--   calls name the line's lane on that stage. `arrive` is an event out-of-band if the line has a callback there, else
--   in-band; `post` is one on its stage. With a callback there it names the line's lane, as an arrival; else the stage,
--   as spurious. A play is in its line's lane.
--   also: Events.lines_after
--   clauses: marks_of
-- the clock's line has a callback from the first
abbrev pub all_marked : List TraceLine → List Told
all_marked lines = marked_behind (Clock ∷ []) lines
