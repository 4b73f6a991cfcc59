-- The shape of a picture: which signs are in it, in order. No definition says how a sign looks.
use Rattle.std.specs.Prelude.{◌≡◌, ℕ, Bool, List, [], ◌∷◌, ◌++◌, length, count_by, drop, flat_map, take, max, ◌*◌, ◌-◌, ◌<◌, ◌≤◌, is_some, position, codes, decimal, if◌then◌else◌, Option, Some, None}
use Rattle.lab_drawing.specs.Lanes.{AreLanesOf, is_lane}
use Rattle.lab_drawing.specs.Marks.{is_entry}
use Rattle.lab_drawing.specs.Pictures.{end_of, entry_of, moment_after, shows_waits, waits_of}
use Rattle.lab_drawing.specs.Ranks.{date_text}
use Rattle.lab_drawing.specs.Strips.{tells_date, tells_number}
use Rattle.lab_drawing.specs.Titles.{title_text}
use Rattle.lab_drawing.specs.declared.drawn.Drawn.{Drawn}
use Rattle.lab_drawing.specs.declared.frames.Shows.{Shows}
use Rattle.lab_drawing.specs.declared.lanes.Lane.{Lane}
use Rattle.lab_drawing.specs.declared.marks.Mark.{Mark}
use Rattle.lab_drawing.specs.declared.moments.Moment.{Moment}
use Rattle.lab_drawing.specs.declared.moments.Standing.{Standing}
use Rattle.lab_drawing.specs.declared.ties.TieEnd.{TieEnd}

-- a date; the state of a lane, and whether its number is printed; a wait that goes on in a lane; a mark, with its entry and what is at the end of its tie
pub data Sign : Type 0 where
  date : ℕ → Sign
  strip : Standing → Bool → Sign
  wait : Lane → Sign
  mark : Option ℕ → Mark → TieEnd → Sign

-- ---- in a text

-- the beginning of an element at a place, and of one with the number of an entry
abbrev pub place_text : ℕ → ℕ → List ℕ
place_text x y = codes "<g transform=\"translate(" ++ (decimal x ++ (codes "," ++ (decimal y ++ codes ")\">")))

abbrev pub mark_place : Option ℕ → ℕ → ℕ → List ℕ
mark_place None x y = place_text x y
mark_place (Some entry) x y = codes "<g data-entry=\"" ++ (decimal entry ++ (codes "\" transform=\"translate(" ++ (decimal x ++ (codes "," ++ (decimal y ++ codes ")\">")))))

-- the beginning of a bar at a place
abbrev pub bar_place : ℕ → ℕ → List ℕ
bar_place x y = codes "<rect x=\"" ++ (decimal x ++ (codes "\" y=\"" ++ (decimal y ++ codes "\"")))

-- a date is printed; the element of any other sign begins with its place, and that of a mark also with its entry and its line as the title
abbrev pub IsSign : Sign → List ℕ → Type 0
IsSign (date nanoseconds) part = part ≡ date_text nanoseconds
IsSign (strip standing told) part = (x : ℕ) × (y : ℕ) × (part ≡ place_text x y)
IsSign (wait lane) part = (x : ℕ) × (y : ℕ) × (part ≡ bar_place x y)
IsSign (mark entry one end) part = (x : ℕ) × (y : ℕ) × (part ≡ mark_place entry x y ++ title_text one.line.now)

-- each of these signs is in the text, each after the one before it
abbrev pub HoldsSigns : List Sign → List ℕ → Type 0
HoldsSigns [] text = Unit {0}
HoldsSigns (sign ∷ rest) text =
    (front : List ℕ) × (part : List ℕ) × (back : List ℕ) × IsSign sign part × (text ≡ front ++ (part ++ back)) × HoldsSigns rest back

-- a text grew by these
abbrev pub AddsSigns : List Sign → List ℕ → List ℕ → Type 0
AddsSigns signs old new = (added : List ℕ) × (new ≡ old ++ added) × HoldsSigns signs added

-- ---- of a column

-- a date, if it is printed
abbrev pub date_signs : ℕ → Bool → List Sign
date_signs nanoseconds told = if told then date nanoseconds ∷ [] else []

-- the state of a lane, if the picture has the lane
abbrev pub lane_signs : List Lane → ℕ → Option Moment → Standing → List Sign
lane_signs lanes column before standing =
    if is_some (position (is_lane standing.lane) lanes) then strip standing (tells_number column standing before) ∷ [] else []

-- a moment, after the moment before
abbrev pub moment_signs : List Lane → ℕ → Moment → Option Moment → List Sign
moment_signs lanes column moment before = date_signs moment.date (tells_date column moment.date before) ++ flat_map (lane_signs lanes column before) moment.standings.items

abbrev pub wait_signs : Lane × Bool → List Sign
wait_signs one = if one.1 then wait one.0 ∷ [] else []

abbrev pub waits_signs : List (Lane × Bool) → List Sign
waits_signs waits = flat_map wait_signs waits

-- the waits, if they are shown beside the lanes' states
abbrev pub shown_waits : Shows → List (Lane × Bool) → List Sign
shown_waits shows waits = if shows_waits shows then waits_signs waits else []

-- the state of the machine, with the waits beside it; where the state isn't known, the waits
abbrev pub stood_signs : List Lane → Shows → ℕ → List (Lane × Bool) → Option Moment → Option Moment → List Sign
stood_signs lanes shows column waits None before = waits_signs waits
stood_signs lanes shows column waits (Some moment) before = moment_signs lanes column moment before ++ shown_waits shows waits

-- and its mark
abbrev pub column_signs : List Lane → Shows → ℕ → List (Lane × Bool) → Option Moment → Option Moment → Option ℕ → TieEnd → Mark → List Sign
column_signs lanes shows column waits moment before entry end one =
    stood_signs lanes shows column waits moment before ++ mark entry one end ∷ []

-- ---- of all columns

-- the column of a mark after those before it: the waits that go on there, the state of the machine after its entry and before it
abbrev pub column_after : List Lane → Shows → List Moment → List Mark → Mark → List Sign
column_after lanes shows moments before one =
    column_signs lanes shows (length before) (waits_of lanes before) (moment_after moments (count_by is_entry (before ++ one ∷ [])))
    (moment_after moments (count_by is_entry before)) (entry_of (before ++ one ∷ [])) (end_of one (moment_after moments (count_by is_entry before))) one

abbrev pub signs_after : List Lane → Shows → List Moment → List Mark → List Mark → List Sign
signs_after lanes shows moments before [] = []
signs_after lanes shows moments before (one ∷ rest) = column_after lanes shows moments before one ++ signs_after lanes shows moments (before ++ one ∷ []) rest

-- a text has the signs of marks, in their lanes, and of the machine's states after their entries
abbrev pub HoldsPicture : Shows → List Moment → List Mark → List ℕ → Type 0
HoldsPicture shows moments marks text = (lanes : List Lane) × AreLanesOf marks lanes × HoldsSigns (signs_after lanes shows moments [] marks) text

-- ---- pages

-- a page of marks, from 0, and the moments of its entries
abbrev pub page_at : List Mark → ℕ → List Mark
page_at marks number = take 2000 (drop (2000 * number) marks)

abbrev pub moments_at : List Mark → List Moment → ℕ → List Moment
moments_at marks moments number = drop (count_by is_entry (take (2000 * number) marks)) moments

-- rule: An SVG has the signs of the page that is drawn, in order: for each mark a date that changed, a strip for each
--   lane of the picture that shows something, the waits (beside words, or if nothing is known of the machine), and an
--   element with its entry and with its line, `&`, `<`, `>` escaped, as title. How a sign looks is in no definition.
--   clauses: write_svg
--   rows: a_trace_is_drawn; a_trace_is_drawn_down; callers_are_drawn; callers_are_drawn_down
-- a text is the picture of what is drawn: it has the signs of its page
abbrev pub IsPictureOf : Drawn → List ℕ → Type 0
IsPictureOf drawn text = HoldsPicture drawn.shows (moments_at drawn.marks.now drawn.moments.items drawn.page) (page_at drawn.marks.now drawn.page) text

-- marks take so many pages: one at least
pub record HasPages (marks : List Mark) (pages : ℕ) : Type 0 where
  pub enough : length marks ≤ 2000 * pages
  pub needed : 2000 * (pages - 1) < max 1 (length marks)
  pub one : 1 ≤ pages
