-- The drawing of a text by `lab draw`.
use Rattle.std.specs.Prelude.{string_bytes, ◌≡◌, ◌⊎◌, ◌<◌, ◌≤◌, ◌-◌, nat_lt, ℕ, List, [], ◌++◌, map, take, length, codes, decimal, Bool, true, false, MatchBool, ◌==◌, if◌then◌else◌, Option, Some, None, unwrap_or, IsSomeAnd, Result, Ok, Err}
use Rattle.std.specs.List.{All}
use Rattle.std.specs.Option.{option_map_or}
use Rattle.std.specs.Str.{is_utf8}
use Rattle.std.specs.Str.Pattern.{FindsText, SplitsAroundMatch}
use Rattle.evl_scenario.specs.Lines.{line_feed}
use Rattle.evl_scenario.specs.declared.faults.Fault.{Fault}
use Rattle.evl_scenario.specs.declared.faults.Fault.TheVariants as fault
use Rattle.evl_shell.specs.Runs.{trace_of}
use Rattle.evl_kernel.specs.state.States.{Handler}
use Rattle.lab_kinds.specs.Kinds.{kind_of}
use Rattle.lab_kinds.specs.declared.kinds.TextKind.{TextKind}
use Rattle.lab_kinds.specs.declared.kinds.TextKind.TheVariants.{Scenario, Callers}
use Rattle.lab_lines.specs.Kinds.{IsPlain}
use Rattle.lab_caller_pictures.specs.Drawings.{IsPicture, Origin, callers, scenario, threads, trace}
use Rattle.lab_caller_pictures.specs.Runs.{IsRunOf, IsWhyOf}
use Rattle.lab_caller_pictures.specs.declared.plays.CallersRun.{CallersRun}
use Rattle.lab_caller_pictures.specs.declared.plays.Unplayed.{Unplayed}
use Rattle.lab_caller_pictures.specs.declared.plays.Unplayed.TheVariants as why
use Rattle.lab_callers.specs.Faults as faults
use Rattle.lab_traces.specs.Says.{IsLine, IsMisread, read_of, says_some, text_of, whole_lines}
use Rattle.lab_traces.specs.declared.traces.TraceLine.{TraceLine}
use Rattle.lab_drawing.specs.Callbacks.{missing_callback}
use Rattle.lab_drawing.specs.Marks.{all_marked, told_of}
use Rattle.lab_drawing.specs.Shapes.{HasPages}
use Rattle.lab_drawing.specs.Words.{bar}
use Rattle.lab_drawing.specs.declared.frames.Goes.{Goes}
use Rattle.lab_drawing.specs.declared.frames.Goes.TheVariants as goes
use Rattle.lab_drawing.specs.declared.marks.Mark.{Mark}
use Rattle.lab_reports.specs.Events.{events_text}
use Rattle.lab_streams.specs.Banks.{Refuses}
use Rattle.lab_streams.specs.Endings.{kinded_words, line_about, words_by}
use Rattle.lab_streams.specs.Lines.{SaysUnread}
use Rattle.lab_streams.specs.Outputs.{OfRead, Output, WritesOverBank, prints, refuses}
use Rattle.lab_streams.specs.Readings.{Reading}
use Rattle.lab_streams.specs.Texts.{text_in}
use Rattle.lab_streams.specs.declared.words.Drawing.{Drawing}
use Rattle.lab_streams.specs.declared.words.Way.{Way}
use Rattle.lab_streams.specs.declared.words.Way.TheVariants.{Down, Across, Fitting}
use Rattle.lab_streams.specs.declared.words.Form.{Form}
use Rattle.lab_streams.specs.declared.words.Form.TheVariants.{Svg, Events}

-- ---- in pages

-- which way is asked for
abbrev pub goes_asked : Way → Option Goes
goes_asked Down = Some goes.Down
goes_asked Across = Some goes.Across
goes_asked Fitting = None

abbrev pub no_page_text : ℕ → ℕ → List ℕ
no_page_text number pages = codes "lab: the picture has no page " ++ (decimal number ++ (codes ": the last one is " ++ (decimal pages ++ line_feed)))

-- of several pages it is said which one is drawn
abbrev pub page_text : ℕ → ℕ → List ℕ
page_text number pages =
    if nat_lt 1 pages then codes "lab: page " ++ (decimal number ++ (codes " of " ++ (decimal pages ++ line_feed))) else []

-- the page that is asked for, from 1, of so many
abbrev pub DrawsPage : Drawing → Origin → List Mark → ℕ → Output → Type 0
DrawsPage drawing origin marks pages output =
    (picture : List ℕ) × IsPicture origin (goes_asked drawing.way) marks (drawing.page - 1) picture
    × (output ≡ record { printed = picture; said = page_text drawing.page pages; status = 0 })

-- or that there is no such page
abbrev pub DrawsSvg : Drawing → Origin → List Mark → Output → Type 0
DrawsSvg drawing origin marks output =
    (pages : ℕ) × HasPages marks pages
    × (((pages < drawing.page) × (output ≡ refuses 2 (no_page_text drawing.page pages))) ⊎ ((drawing.page ≤ pages) × DrawsPage drawing origin marks pages output))

-- ---- in any form

-- as trace events, all marks at once
unfoldable pub events_of : List Mark → List ℕ
events_of marks = events_text marks

abbrev pub DrawsMarks : Form → Drawing → Origin → List Mark → Output → Type 0
DrawsMarks Svg drawing origin marks output = DrawsSvg drawing origin marks output
DrawsMarks Events drawing origin marks output = output ≡ prints (events_of marks)

-- the first marks, so many where a number is asked for
abbrev pub first_of : Option ℕ → List Mark → List Mark
first_of None marks = marks
first_of (Some count) marks = take count marks

abbrev pub DrawsLines : Drawing → Origin → List TraceLine → Output → Type 0
DrawsLines drawing origin lines output = (marks : List Mark) × (map told_of marks ≡ all_marked lines) × DrawsMarks drawing.form drawing origin (first_of drawing.upto marks) output

-- a text is these lines of a trace
pub record AreLinesOf (text : List ℕ) (lines : List TraceLine) : Type 0 where
  pub read : map read_of lines ≡ map says_some lines
  pub whole : whole_lines (map text_of lines) ≡ text
  pub alone : All (λ line. IsLine (text_of line)) lines

-- the lines that a text is
abbrev pub DrawsTrace : Drawing → Origin → List ℕ → Output → Type 0
DrawsTrace drawing origin text output = (lines : List TraceLine) × AreLinesOf text lines × DrawsLines drawing origin lines output

-- ---- a scenario that was played

-- a callback that a call names and that the bank, which has so many, hasn't
abbrev pub missing_text : ℕ → Option ℕ → List ℕ
missing_text count None = []
missing_text count (Some number) =
    codes "lab: a call names callback " ++ (decimal number ++ (codes ", and the bank has " ++ (decimal count ++ codes ": --bank BANK draws over another\n")))

-- an output after what was said before it
abbrev pub SaysFirst : List ℕ → (Output → Type 0) → Output → Type 0
SaysFirst said Is output = (rest : Output) × Is rest × (output ≡ record { printed = rest.printed; said = said ++ rest.said; status = rest.status })

-- the lines that were made over a bank
abbrev pub DrawsOver : List Handler → Drawing → Origin → List TraceLine → Output → Type 0
DrawsOver bank drawing origin lines =
    SaysFirst (missing_text (length bank) (missing_callback (length bank) lines)) (DrawsLines drawing origin lines)

abbrev pub DrawsMade : List Handler → Drawing → Origin → List ℕ → Output → Type 0
DrawsMade bank drawing origin made output = (lines : List TraceLine) × AreLinesOf made lines × DrawsOver bank drawing origin lines output

-- ---- a text that is none of a trace

abbrev pub fault_words : Fault → Option (List ℕ)
fault_words fault.Text = Some (codes "bad text")
fault_words fault.Board = Some (codes "a bad board")
fault_words (fault.Step number) = Some (codes "a bad step " ++ decimal number)
fault_words fault.Memory = None
fault_words fault.Write = None

-- the line that is none, and what is wrong with the scenario
abbrev pub neither_text : ℕ → List ℕ → List ℕ
neither_text line words = codes "lab: line " ++ (decimal line ++ (codes " is no line of a trace, and as a scenario it has " ++ (words ++ line_feed)))

-- or, of another kind, for which part the text is
abbrev pub undrawn_text : TextKind → ℕ → List ℕ → List ℕ
undrawn_text Scenario line words = neither_text line words
undrawn_text kind line words = line_about (codes "lab") (words_by kind words)

-- ---- a text of callers

-- what is drawn of a run: its lines, with what is known of the calls that were entered
abbrev pub origin_of_run : List Handler → CallersRun → Origin
origin_of_run bank run = option_map_or (λ known. threads bank (string_bytes known.scenario) known.counts.items) run.entered callers

abbrev pub DrawsRun : List Handler → Drawing → CallersRun → Output → Type 0
DrawsRun bank drawing run output = DrawsMade bank drawing (origin_of_run bank run) (string_bytes run.lines) output

-- the words of why there is none
abbrev pub unplayed_words : Unplayed → Option (List ℕ)
unplayed_words (why.Text e) = kinded_words Scenario e
unplayed_words why.Board = Some (codes "bad board")
unplayed_words (why.Step number e) = Some (codes "bad step " ++ (decimal number ++ (codes ": " ++ faults.fault_words e)))
unplayed_words why.Memory = None

-- the run of a text over a bank, or why there is none
abbrev pub DrawsCallers : List Handler → Drawing → List ℕ → Output → Type 0
DrawsCallers bank drawing text output =
    ((run : CallersRun) × IsRunOf bank text run × DrawsRun bank drawing run output)
    ⊎ ((reason : Unplayed) × IsWhyOf bank text reason × IsSomeAnd (unplayed_words reason) (λ words. output ≡ refuses 2 (line_about (codes "lab") words)))

-- ---- a text that is played

-- a text that is no scenario, for these words: one of callers is drawn, of another kind it is said what it is
abbrev pub DrawsKind : TextKind → List Handler → Drawing → List ℕ → ℕ → List ℕ → Output → Type 0
DrawsKind Callers bank drawing text line words output = DrawsCallers bank drawing text output
DrawsKind kind bank drawing text line words output = output ≡ refuses 2 (undrawn_text kind line words)

-- the trace of the scenario over a bank, or what there is instead
abbrev pub DrawsPlayed : List Handler → Drawing → List ℕ → ℕ → Result (List ℕ) Fault → Output → Type 0
DrawsPlayed bank drawing text line (Ok made) output = DrawsMade bank drawing (scenario bank text) (text_in made) output
DrawsPlayed bank drawing text line (Err e) output = IsSomeAnd (fault_words e) (λ words. DrawsKind (kind_of text) bank drawing text line words output)

-- a text of lines is played by its scenario, if it can be read
abbrev pub DrawsGiven : List Handler → Drawing → List ℕ → ℕ → Output → Type 0
DrawsGiven bank drawing text line output =
    ((plain : List ℕ) × IsPlain text plain × DrawsPlayed bank drawing (text_in plain) line (trace_of bank None (text_in plain)) output)
    ⊎ ((said : List ℕ) × SaysUnread (codes "lab") text said × (output ≡ refuses 2 said))

-- a trace that was read, or else a text as a scenario
abbrev pub DrawsWhole : List Handler → Drawing → Origin → List ℕ → List ℕ → Output → Type 0
DrawsWhole bank drawing origin read text output =
    DrawsTrace drawing origin read output ⊎ ((line : ℕ) × IsMisread read line × DrawsGiven bank drawing text line output)

-- ---- a text

-- what is between the lines of callers and what is printed of their machine's end
abbrev pub closing : List ℕ
closing = codes "\nclose -> "

-- the whole text: lines of callers where one shows a word, or else a trace
abbrev pub DrawsUnclosed : List Handler → Drawing → List ℕ → Output → Type 0
DrawsUnclosed bank drawing text output =
    ((front : List ℕ) × (back : List ℕ) × SplitsAroundMatch (FindsText bar) text front back × DrawsWhole bank drawing callers text text output)
    ⊎ (FindsText bar text None × DrawsWhole bank drawing trace text text output)

-- the lines of callers up to there, or else all of it
abbrev pub DrawsText : List Handler → Drawing → List ℕ → Output → Type 0
DrawsText bank drawing text output =
    ((front : List ℕ) × (back : List ℕ) × SplitsAroundMatch (FindsText closing) text front back × DrawsWhole bank drawing callers (front ++ line_feed) text output)
    ⊎ (FindsText closing text None × DrawsUnclosed bank drawing text output)

-- an empty text is no trace: it is taken as a scenario
abbrev pub DrawsSome : List Handler → Drawing → List ℕ → Output → Type 0
DrawsSome bank drawing text output = MatchBool (length text == 0) (DrawsGiven bank drawing text 1 output) (DrawsText bank drawing text output)

abbrev pub DrawsIf : List Handler → Bool → Drawing → List ℕ → Output → Type 0
DrawsIf bank true drawing text output = DrawsSome bank drawing text output
DrawsIf bank false drawing text output = output ≡ refuses 2 (codes "lab: the text is no UTF-8\n")

-- of a file, by what was read of it
abbrev pub DrawsRead : List Handler → Drawing → List ℕ → Reading → Output → Type 0
DrawsRead bank drawing = OfRead (λ text. DrawsIf bank (is_utf8 text) drawing text)

-- rule: `lab draw` prints the picture of the text that was read: of callers' lines up to their machine's close, or of
--   all lines if one shows a word, of a trace, or over the bank of the trace of a scenario, as which an empty text is
--   read, also that of a text of lines, or of a text of callers, with their threads if these are known. An SVG is the
--   page asked for, with how the lanes stand if that is known; it goes down if asked to, or with at most 60 marks.
--   Trace events have all marks. If a number of lines is asked for, only so many first marks are drawn. Standard error
--   says which callback a call names that the bank has not, and which of several pages it is; or, with 2, why the bank
--   is refused, that there is no such page, which line is no line of a trace and what is wrong with the scenario, what
--   is wrong with a text of callers or with which step, or for which part the text is.
--   also: Draws.{DrawsCallers, DrawsRead, DrawsSome, DrawsText, DrawsUnclosed, DrawsWhole, DrawsOver, DrawsSvg,
--   DrawsMarks, DrawsGiven}; Drawings.{IsPicture, IsDrawn}; Banks.Refuses
--   clauses: draw; draw_some; draw_text; draw_unclosed; draw_whole; draw_over; draw_svg; draw_unplayed; picture_of;
--   draw_marks
-- the bank's file is refused, or what a file or the input holds is drawn over its callbacks
abbrev pub Draws : Drawing → Option (List ℕ) → Option (List ℕ) → Option (List ℕ) → Option (List ℕ) → Option (List ℕ) → Option (List ℕ) → Option (List ℕ) → ℕ → Type 0
Draws drawing plans file known old new quiet spoken status =
    Refuses plans old new quiet spoken status
    ⊎ WritesOverBank (λ bank. DrawsRead bank drawing (unwrap_or file (codes "-"))) plans file known old new quiet spoken status
