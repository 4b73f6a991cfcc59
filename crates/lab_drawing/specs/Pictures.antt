-- All that a picture shows of each mark, and of the waits that go on.
use Rattle.std.specs.Prelude.{ℕ, zero, suc, ◌==◌, Bool, true, false, List, length, map, slice_get, codes, if◌then◌else◌, Option, Some, None, option_and_then, is_some}
use Rattle.std.specs.List.{fold}
use Rattle.lab_drawing.specs.Lanes.{is_lane}
use Rattle.lab_drawing.specs.Marks.{is_entry}
use Rattle.lab_drawing.specs.Events.{line_at}
use Rattle.lab_drawing.specs.Named.{value_of}
use Rattle.lab_drawing.specs.Strips.{standing_of}
use Rattle.lab_drawing.specs.Texts.{around_part, number_in}
use Rattle.lab_drawing.specs.declared.frames.Shows.{Shows}
use Rattle.lab_drawing.specs.declared.frames.Shows.TheVariants.{Callers, Machine, Waits, Words}
use Rattle.lab_drawing.specs.declared.lanes.Lane.{Lane}
use Rattle.lab_drawing.specs.declared.marks.Mark.{Mark}
use Rattle.lab_drawing.specs.declared.marks.Shape.{Shape}
use Rattle.lab_drawing.specs.declared.marks.Shape.TheVariants.{Begun, Ended, Arrived, Spurious, Played, Unhandled}
use Rattle.lab_drawing.specs.declared.moments.Moment.{Moment}
use Rattle.lab_drawing.specs.declared.ties.TieEnd.{TieEnd}
use Rattle.lab_drawing.specs.declared.ties.TieEnd.TheVariants.{Named, Arrives, Merges, Lost}

-- ---- entries

-- the number of an entry, with which its line begins
abbrev pub number_of : List ℕ → Option ℕ
number_of line = option_and_then (λ cut. number_in 64 cut.0) (around_part (codes " ") line)

-- the entry of a mark: a play's is the one before it
abbrev pub entry_with : Option ℕ → Mark → Option ℕ
entry_with before mark = if is_entry mark then number_of mark.line.now else before

-- rule: A mark has the number with which the line of its entry begins, a play that of the last entry before it in the
--   picture; one that has none, none.
--   also: Shapes.mark_place
--   clauses: write_svg
--   rows: a_mark_has_its_entry
-- the entry of the last one of some marks
abbrev pub entry_of : List Mark → Option ℕ
entry_of marks = fold entry_with None marks

-- ---- marks

-- how often a play's callback was called
abbrev pub count_told : List ℕ → Option ℕ
count_told line = option_and_then (number_in 64) (value_of line (codes " count "))

-- rule: In a picture that goes down a play's count is beside its mark, and the line of a spurious event.
--   clauses: told_beside
-- what is shown beside a mark: of a play its count, of a spurious event the interrupt line
abbrev pub told_beside : Shape → List ℕ → Option ℕ
told_beside Played line = count_told line
told_beside Unhandled line = count_told line
told_beside Spurious line = line_at line
told_beside _ line = None

-- a named lane showed something at the moment before
abbrev pub stood : Option Lane → Option Moment → Bool
stood (Some lane) (Some moment) = is_some (standing_of lane moment)
stood _ _ = false

abbrev pub event_end : Bool → TieEnd
event_end true = Merges
event_end false = Arrives

-- what is at the end of a tie: an event that was pending before merges
abbrev pub end_at : Shape → Bool → TieEnd
end_at Arrived pending = event_end pending
end_at Spurious pending = Lost
end_at _ pending = Named

-- rule: The end of a call's tie shows how an event arrives: it merges if the named lane was pending at the moment
--   before, else it is new; it is spurious; or the lane is only named.
--   clauses: end_of
--   rows: an_event_that_merges_is_told_apart
abbrev pub end_of : Mark → Option Moment → TieEnd
end_of mark before = end_at mark.shape (stood mark.names before)

-- ---- waits

-- whether a wait goes on after a call, where it did so before it or not
abbrev pub waits_behind : Shape → Bool → Bool
waits_behind Begun before = true
waits_behind Ended before = false
waits_behind _ before = before

abbrev pub goes_on_behind : Lane → Bool → Mark → Bool
goes_on_behind lane before mark = if is_lane mark.lane lane then waits_behind mark.shape before else before

-- a lane, and whether a wait goes on there after a mark, given whether one did before
abbrev pub wait_behind : Mark → Lane × Bool → Lane × Bool
wait_behind mark wait = (wait.0, goes_on_behind wait.0 wait.1 mark)

-- whether a wait goes on in a lane after these marks
abbrev pub goes_on : List Mark → Lane → Bool
goes_on marks lane = fold (goes_on_behind lane) false marks

-- each lane, and whether a wait goes on there after these marks
abbrev pub waits_of : List Lane → List Mark → List (Lane × Bool)
waits_of lanes marks = map (λ lane. (lane, goes_on marks lane)) lanes

-- ---- moments

-- the state of the machine after so many entries, where that is known
abbrev pub moment_after : List Moment → ℕ → Option Moment
moment_after moments zero = None
moment_after moments (suc before) = slice_get moments before

-- whether the waits are shown beside the lanes' states
abbrev pub shows_waits : Shows → Bool
shows_waits Words = true
shows_waits Callers = true
shows_waits _ = false

-- what is shown of a machine's state, by the moments that are known
abbrev pub shown_with : List Moment → Shows
shown_with moments = if length moments == 0 then Waits else Machine
