-- The states of the words that callers went to, after each of their lines.
use Rattle.std.specs.Prelude.{ℕ, ◌+◌, ◌-◌, ◌^◌, min, not, List, [], ◌∷◌, ◌++◌, map, filter, codes, Option, Some, None, option_and_then, option_to_list, unwrap_or}
use Rattle.std.specs.List.{last_or}
use Rattle.lab_traces.specs.Parts.{before_end}
use Rattle.lab_drawing.specs.Lanes.{is_lane}
use Rattle.lab_drawing.specs.Marks.{is_entry, line_of}
use Rattle.lab_drawing.specs.Texts.{around_part, number_in}
use Rattle.lab_drawing.specs.Words.{word_shown, standing_by}
use Rattle.lab_drawing.specs.declared.lanes.Lane.{Lane}
use Rattle.lab_drawing.specs.declared.marks.Mark.{Mark}
use Rattle.lab_drawing.specs.declared.moments.Moment.{Moment}
use Rattle.lab_drawing.specs.declared.moments.Standing.{Standing}

-- what a moment has: the date, and the lanes that show something
pub record Told : Type 0 where
  pub date : ℕ
  pub standings : List Standing

abbrev pub told_at : Moment → Told
told_at moment = record { date = moment.date; standings = moment.standings.items }

-- what is before the answer of a call that is done
unfoldable pub before_done : List ℕ → Option (List ℕ)
before_done text = before_end (codes " -> done") text

-- the delta of a tick that is done
abbrev pub delta_of : List ℕ → Option (List ℕ)
delta_of line = option_and_then (λ cut. before_done cut.1) (around_part (codes " tick delta=") line)

-- by how much a line moves the date
abbrev pub moved_by : List ℕ → Option ℕ
moved_by line = option_and_then (number_in 64) (delta_of line)

abbrev pub date_after : List ℕ → ℕ → ℕ
date_after line date = min (date + unwrap_or (moved_by line) 0) (2 ^ 64 - 1)

-- all standings but that of this lane
abbrev pub others : Lane → List Standing → List Standing
others lane standings = filter (λ standing. not (is_lane standing.lane lane)) standings

-- a lane has the state that these words say, where it isn't free, and the others have theirs from before
abbrev pub stand_with : Lane → List ℕ → List Standing → List Standing
stand_with lane how before = others lane before ++ option_to_list (standing_by lane how)

-- their states after what a line shows
abbrev pub stand_after : Option (Lane × List ℕ) → List Standing → List Standing
stand_after None before = before
stand_after (Some told) before = stand_with told.0 told.1 before

-- the moment after a line, given the one before it
abbrev pub told_after : Told → List ℕ → Told
told_after before line = record { date = date_after line before.date; standings = stand_after (word_shown line) before.standings }

-- before the first line
abbrev pub at_first : Told
at_first = record { date = 0; standings = [] }

-- the last of some moments
abbrev pub last_told : List Told → Told
last_told told = unwrap_or (last_or None told) at_first

-- the moments after each of some lines, given the moment before the first
abbrev pub told_behind : Told → List (List ℕ) → List Told
told_behind before [] = []
told_behind before (line ∷ rest) = told_after before line ∷ told_behind (told_after before line) rest

-- the lines of entries
abbrev pub entry_lines : List Mark → List (List ℕ)
entry_lines marks = map line_of (filter is_entry marks)

-- the moments after each entry of marks
abbrev pub all_told : List Mark → List Told
all_told marks = told_behind at_first (entry_lines marks)
