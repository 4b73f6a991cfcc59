-- The picture of a text: as `lab draw` says, over any callbacks.
use Rattle.std.specs.Prelude.{◌≡◌, ◌⊎◌, ◌<◌, ◌≤◌, ◌-◌, ℕ, List, [], ◌++◌, map, codes, Bool, true, false, if◌then◌else◌, Option, Some, None, Result, Ok, Err, IfSome}
use Rattle.std.specs.List.{All}
use Rattle.std.specs.Str.{is_utf8}
use Rattle.std.specs.Str.Pattern.{FindsText, SplitsAroundMatch}
use Rattle.evl_kernel.specs.state.States.{Handler}
use Rattle.evl_scenario.specs.Lines.{line_feed}
use Rattle.evl_scenario.specs.declared.faults.Fault.{Fault}
use Rattle.evl_scenario.specs.declared.faults.Fault.TheVariants as fault
use Rattle.evl_shell.specs.Runs.{trace_of}
use Rattle.lab_traces.specs.Says.{IsLine, IsMisread, read_of, says_some, text_of, whole_lines}
use Rattle.lab_traces.specs.declared.traces.TraceLine.{TraceLine}
use Rattle.lab_caller_pictures.specs.Drawings.{IsPicture, Origin, callers, scenario, trace}
use Rattle.lab_drawing.specs.Marks.{all_marked, told_of}
use Rattle.lab_drawing.specs.Shapes.{HasPages}
use Rattle.lab_drawing.specs.declared.frames.Goes.{Goes}
use Rattle.lab_drawing.specs.declared.marks.Mark.{Mark}
use Rattle.lab_reports.specs.Events.{events_text}
use Rattle.lab_lines.specs.Kinds.{IsPlain}
use Rattle.evl_c.specs.Given.{IsUnreadAs}
use Rattle.evl_c.specs.declared.pictures.Form.{Form}
use Rattle.evl_c.specs.declared.pictures.Form.TheVariants.{Svg, Events}
use Rattle.evl_c.specs.declared.pictures.Picture.{Picture}
use Rattle.evl_c.specs.declared.pictures.Undrawn.{Undrawn}
use Rattle.evl_c.specs.declared.pictures.Undrawn.TheVariants as undrawn

-- ---- what comes of a text

-- a picture, of a text that makes so many pages; the page is beyond so many; or the text is no trace, since this line is none of one,
-- and no scenario for this fault; or it is no UTF-8
pub data Outcome : Type 0 where
  picture : List ℕ → ℕ → Outcome
  beyond : ℕ → Outcome
  neither : ℕ → Fault → Outcome
  unread : Outcome

-- what a body reports of it; for want of memory nothing
abbrev pub failed : Undrawn → Option Outcome
failed undrawn.Text = Some unread
failed (undrawn.Neither line e) = Some (neither line e)
failed (undrawn.Beyond pages) = Some (beyond pages)
failed undrawn.Memory = None

abbrev pub outcome_of : Result Picture Undrawn → Option Outcome
outcome_of (Ok p) = Some (picture p.text.items p.pages)
outcome_of (Err e) = failed e

-- of a line that is none of a trace, and a fault of the scenario
abbrev pub of_fault : ℕ → Fault → Option Outcome
of_fault line fault.Text = Some (neither line fault.Text)
of_fault line fault.Board = Some (neither line fault.Board)
of_fault line (fault.Step number) = Some (neither line (fault.Step number))
of_fault line fault.Memory = None
of_fault line fault.Write = None

-- such an outcome, or memory ran out
abbrev pub Ends : (Outcome → Type 0) → Result Picture Undrawn → Type 0
Ends Is result = IfSome (outcome_of result) Is

-- ---- in a form

-- all marks at once, as trace events
unfoldable pub events_of : List Mark → List ℕ
events_of marks = events_text marks

-- a text is these lines of a trace
pub record AreLinesOf (text : List ℕ) (lines : List TraceLine) : Type 0 where
  pub read : map read_of lines ≡ map says_some lines
  pub whole : whole_lines (map text_of lines) ≡ text
  pub alone : All (λ line. IsLine (text_of line)) lines

-- the text that bytes are; none where they are no UTF-8
abbrev pub text_in : List ℕ → List ℕ
text_in bytes = if is_utf8 bytes then bytes else []

-- what comes between the lines of callers and the report of their machine's end
abbrev pub closing : List ℕ
closing = codes "\nclose -> "

module _ (page : ℕ) where
  -- the page that is asked for, from 1, of so many
  abbrev pub DrawsPage : Option Goes → Origin → List Mark → ℕ → Outcome → Type 0
  DrawsPage goes origin marks pages outcome = (text : List ℕ) × IsPicture origin goes marks (page - 1) text × (outcome ≡ picture text pages)

  -- or that there is no such page
  abbrev pub DrawsSvg : Option Goes → Origin → List Mark → Outcome → Type 0
  DrawsSvg goes origin marks outcome =
      (pages : ℕ) × HasPages marks pages
      × (((pages < page) × (outcome ≡ beyond pages)) ⊎ ((page ≤ pages) × DrawsPage goes origin marks pages outcome))

  -- in any form
  abbrev pub DrawsMarks : Form → Origin → List Mark → Outcome → Type 0
  DrawsMarks (Svg goes) origin marks outcome = DrawsSvg goes origin marks outcome
  DrawsMarks Events origin marks outcome = outcome ≡ picture (events_of marks) 1

  module _ (form : Form) where
    abbrev pub DrawsLines : Origin → List TraceLine → Outcome → Type 0
    DrawsLines origin lines outcome = (marks : List Mark) × (map told_of marks ≡ all_marked lines) × DrawsMarks form origin marks outcome

    -- the lines that a text is
    abbrev pub DrawsTrace : Origin → List ℕ → Outcome → Type 0
    DrawsTrace origin text outcome = (lines : List TraceLine) × AreLinesOf text lines × DrawsLines origin lines outcome

module _ (bank : List Handler) (page : ℕ) (form : Form) where
  -- the trace of a scenario over these callbacks, or why there is none
  abbrev pub DrawsPlayed : List ℕ → ℕ → Result (List ℕ) Fault → Outcome → Type 0
  DrawsPlayed text line (Ok made) outcome = DrawsTrace page form (scenario bank text) (text_in made) outcome
  DrawsPlayed text line (Err e) outcome = outcome ≡ neither line e

  -- of what a text is taken for; or it is a text of lines that can't be read
  abbrev pub DrawsGiven : List ℕ → ℕ → Outcome → Type 0
  DrawsGiven text line outcome =
      ((plain : List ℕ) × IsPlain text plain × DrawsPlayed (text_in plain) line (trace_of bank None (text_in plain)) outcome)
      ⊎ ((e : Fault) × IsUnreadAs text e × (outcome ≡ neither line e))

  -- a trace that was read, or else a text as a scenario
  abbrev pub DrawsWhole : Origin → List ℕ → List ℕ → Outcome → Type 0
  DrawsWhole origin read text outcome = DrawsTrace page form origin read outcome ⊎ ((line : ℕ) × IsMisread read line × DrawsGiven text line outcome)

  -- the lines of callers up to where their machine is closed, or else the whole text as a trace
  abbrev pub DrawsText : List ℕ → Outcome → Type 0
  DrawsText text outcome =
      ((front : List ℕ) × (back : List ℕ) × SplitsAroundMatch (FindsText closing) text front back × DrawsWhole callers (front ++ line_feed) text outcome)
      ⊎ (FindsText closing text None × DrawsWhole trace text text outcome)

  abbrev pub DrawsIf : Bool → List ℕ → Outcome → Type 0
  DrawsIf true text outcome = DrawsText text outcome
  DrawsIf false text outcome = outcome ≡ unread

  -- of bytes
  -- rule: C's buffer has the picture that `lab draw` has of callers' lines up to the close of their machine, of a
  --   trace, or over the plans of a scenario's trace, with how the lanes are (callers' lines without a close are drawn
  --   as a trace, a text of callers is not drawn); the page of an SVG that is asked for, or all marks as trace events.
  --   Else it is as before, and the answer is exact: no UTF-8; the line that is none of a trace, with the scenario's
  --   fault; how many pages there are.
  --   also: Draws.Draws
  --   clauses: evlsim_c_draw; evlsim_c_draw_over; draw
  abbrev pub DrawsBytes : List ℕ → Outcome → Type 0
  DrawsBytes bytes outcome = DrawsIf (is_utf8 bytes) bytes outcome
