-- The drawing of marks, by what they come from.
use Rattle.std.specs.Prelude.{string_bytes, ◌≡◌, ℕ, List, [], length, map, nat_le, if◌then◌else◌, Option, Some, None}
use Rattle.evl_kernel.specs.state.States.{Handler}
use Rattle.evl_plans.specs.Told.{handler_of}
use Rattle.evl_scenario.specs.Scenarios.{scenario_of}
use Rattle.lab_caller_pictures.specs.Joins.{AreJoined}
use Rattle.lab_caller_pictures.specs.declared.drawn.Source.{Source}
use Rattle.lab_caller_pictures.specs.declared.drawn.Source.TheVariants as source
use Rattle.lab_drawing.specs.Lanes.{AreLanesOf}
use Rattle.lab_drawing.specs.Pictures.{shown_with}
use Rattle.lab_drawing.specs.Shapes.{IsPictureOf, moments_at}
use Rattle.lab_drawing.specs.Standings.{all_told, told_at}
use Rattle.lab_drawing.specs.declared.drawn.Drawn.{Drawn}
use Rattle.lab_drawing.specs.declared.frames.Goes.{Goes}
use Rattle.lab_drawing.specs.declared.frames.Goes.TheVariants as goes
use Rattle.lab_drawing.specs.declared.frames.Shows.{Shows}
use Rattle.lab_drawing.specs.declared.frames.Shows.TheVariants as shows
use Rattle.lab_drawing.specs.declared.lanes.Lane.{Lane}
use Rattle.lab_drawing.specs.declared.marks.Mark.{Mark}
use Rattle.lab_drawing.specs.declared.moments.Moment.{Moment}
use Rattle.lab_moments.specs.Moments.{moment_shown, shown_of}

-- from a trace alone, from that of a scenario's text over a bank, or from the lines of callers: alone, or with the scenario of their calls and how many were entered after each line
pub data Origin : Type 0 where
  trace : Origin
  scenario : List Handler → List ℕ → Origin
  callers : Origin
  threads : List Handler → List ℕ → List ℕ → Origin

abbrev pub origin_of : Source → Origin
origin_of source.Trace = trace
origin_of (source.Scenario bank text) = scenario (map handler_of bank.now) text.now
origin_of source.Callers = callers
origin_of (source.Threads bank known) = threads (map handler_of bank.now) (string_bytes known.now.scenario) known.now.counts.items

-- The states of marks' lanes after each of their entries, as far as they are known: of a scenario over its bank, of
-- callers by what their lines show, or with the threads too.
abbrev pub AreMomentsOf : Origin → List Mark → List Moment → Type 0
AreMomentsOf trace marks moments = moments ≡ []
AreMomentsOf (scenario bank text) marks moments = (lanes : List Lane) × AreLanesOf marks lanes × (map moment_shown moments ≡ shown_of lanes bank (scenario_of None text))
AreMomentsOf callers marks moments = map told_at moments ≡ all_told marks
AreMomentsOf (threads bank text counts) marks moments = AreJoined bank text counts marks moments

-- what a picture shows of lanes' states, by the moments of its page
abbrev pub shows_for : Origin → List Moment → Shows
shows_for trace moments = shown_with moments
shows_for (scenario bank text) moments = shown_with moments
shows_for callers moments = shows.Words
shows_for (threads bank text counts) moments = shows.Callers

-- which way a picture of so many marks goes
abbrev pub goes_for : Option Goes → ℕ → Goes
goes_for (Some asked) count = asked
goes_for None count = if nat_le count 60 then goes.Down else goes.Across

-- what is drawn of a page, from 0, of marks
pub record IsDrawn (origin : Origin) (asked : Option Goes) (marks : List Mark) (number : ℕ) (drawn : Drawn) : Type 0 where
  pub marks_are : drawn.marks.now ≡ marks
  pub moments_are : AreMomentsOf origin marks drawn.moments.items
  pub shows : drawn.shows ≡ shows_for origin (moments_at marks drawn.moments.items number)
  pub goes : drawn.goes ≡ goes_for asked (length marks)
  pub page : drawn.page ≡ number

-- its picture
abbrev pub IsPicture : Origin → Option Goes → List Mark → ℕ → List ℕ → Type 0
IsPicture origin asked marks number text = (drawn : Drawn) × IsDrawn origin asked marks number drawn × IsPictureOf drawn text
