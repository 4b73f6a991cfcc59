-- The state of each lane in a column, and where its number and the date are printed.
use Rattle.std.specs.Prelude.{ℕ, ◌%◌, ◌==◌, Bool, true, false, not, ◌&&◌, ◌||◌, find, if◌then◌else◌, Option, Some, None}
use Rattle.evl_base.specs.declared.policy.Policy.{Policy}
use Rattle.evl_base.specs.declared.policy.Policy.TheVariants.{Rr}
use Rattle.lab_drawing.specs.Ranks.{own_rank}
use Rattle.lab_drawing.specs.Lanes.{is_lane}
use Rattle.lab_drawing.specs.declared.lanes.Lane.{Lane}
use Rattle.lab_drawing.specs.declared.moments.Moment.{Moment}
use Rattle.lab_drawing.specs.declared.moments.Standing.{Standing}

-- the state of a lane at a moment
abbrev pub standing_of : Lane → Moment → Option Standing
standing_of lane moment = find (λ standing. is_lane lane standing.lane) moment.standings.items

abbrev pub is_number : Option ℕ → Option ℕ → Bool
is_number None None = true
is_number (Some one) (Some other) = one == other
is_number _ _ = false

-- two policies are written alike
abbrev pub is_round : Policy → Bool
is_round (Rr prio slice) = true
is_round _ = false

abbrev pub is_written_so : Policy → Policy → Bool
is_written_so one other = own_rank one == own_rank other && (if is_round one then is_round other else not (is_round other))

abbrev pub is_policy : Option Policy → Option Policy → Bool
is_policy None None = true
is_policy (Some one) (Some other) = is_written_so one other
is_policy _ _ = false

abbrev pub ranked_so : Standing → Standing → Bool
ranked_so standing earlier = is_policy earlier.policy standing.policy && is_number earlier.lender standing.lender

-- with this number, this policy and this lender
abbrev pub stood_so : Standing → Option Standing → Bool
stood_so standing None = false
stood_so standing (Some earlier) = is_number earlier.number standing.number && ranked_so standing earlier

-- the moment before had these for the lane
abbrev pub had_number : Standing → Option Moment → Bool
had_number standing None = false
had_number standing (Some moment) = stood_so standing (standing_of standing.lane moment)

-- a number is printed where it is another than before, or a band begins
abbrev pub tells_number : ℕ → Standing → Option Moment → Bool
tells_number column standing before = column % 60 == 0 || not (had_number standing before)

abbrev pub was_date : ℕ → Option Moment → Bool
was_date date None = false
was_date date (Some moment) = moment.date == date

-- a date is printed where it is another than before, or a band begins
abbrev pub tells_date : ℕ → ℕ → Option Moment → Bool
tells_date column date before = not (was_date date before) || column % 60 == 0
