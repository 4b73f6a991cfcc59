-- The lanes of a picture.
use Rattle.std.specs.Prelude.{◌≡◌, ℕ, ◌==◌, nat_lt, Bool, true, ◌&&◌, ◌||◌, List, [], ◌∷◌, ◌++◌, Option, Some, None, false, if◌then◌else◌, codes}
use Rattle.std.specs.Fmt.{decimal}
use Rattle.std.specs.List.{AllByRecursion, list_any}
use Rattle.std.specs.Option.{option_map_or}
use Rattle.evl_base.specs.declared.stage.Stage.TheVariants.{Inband, Oob}
use Rattle.lab_drawing.specs.declared.lanes.Lane.{Lane}
use Rattle.lab_drawing.specs.declared.lanes.Lane.TheVariants.{Thread, Mutex, Stax, Core, Sem, Flags, Xbuf, Timer, Clock, Line, Stage}
use Rattle.lab_drawing.specs.declared.marks.Mark.{Mark}

-- the name of a lane
abbrev pub lane_text : Lane → List ℕ
lane_text (Thread number) = codes "T" ++ decimal number
lane_text (Mutex number) = codes "mutex " ++ decimal number
lane_text (Stax number) = codes "stax " ++ decimal number
lane_text Core = codes "core"
lane_text (Sem number) = codes "sem " ++ decimal number
lane_text (Flags number) = codes "flags " ++ decimal number
lane_text (Xbuf number) = codes "xbuf " ++ decimal number
lane_text (Timer number) = codes "timer " ++ decimal number
lane_text Clock = codes "clock"
lane_text (Line Oob number) = codes "oob " ++ decimal number
lane_text (Line Inband number) = codes "inband " ++ decimal number
lane_text (Stage Oob) = codes "out-of-band"
lane_text (Stage Inband) = codes "in-band"

-- where a lane is in a picture, from the top: its kind, and its number
abbrev pub place : Lane → ℕ × ℕ
place (Thread number) = (0, number)
place (Mutex number) = (1, number)
place (Stax number) = (2, number)
place Core = (3, 0)
place (Sem number) = (4, number)
place (Flags number) = (5, number)
place (Xbuf number) = (6, number)
place (Timer number) = (7, number)
place Clock = (8, 0)
place (Line Oob number) = (9, number)
place (Stage Oob) = (10, 0)
place (Line Inband number) = (11, number)
place (Stage Inband) = (12, 0)

abbrev pub is_before : ℕ × ℕ → ℕ × ℕ → Bool
is_before one other = nat_lt one.0 other.0 || (one.0 == other.0 && nat_lt one.1 other.1)

abbrev pub is_above : Lane → Lane → Bool
is_above one other = is_before (place one) (place other)

abbrev pub is_lane : Lane → Lane → Bool
is_lane one other = (place one).0 == (place other).0 && (place one).1 == (place other).1

-- a mark is in this lane, or its call names it
abbrev pub touches : Lane → Mark → Bool
touches lane mark = is_lane lane mark.lane || option_map_or (is_lane lane) mark.names false

-- each lane is above all that follow it, so that none is there twice
abbrev pub AreSorted : List Lane → Type 0
AreSorted [] = Unit {0}
AreSorted (lane ∷ rest) = AllByRecursion (λ other. is_above lane other ≡ true) rest × AreSorted rest

-- rule: The lanes are those that have marks or are named, each once: threads, mutexes, staxes, the core, semaphores,
--   flag groups, cross-buffers, timers, the clock, out-of-band lines, that stage, in-band lines, that stage; each kind
--   by number.
--   clauses: lanes_of
-- the lanes of marks, from the top: those that the marks touch, and no others
pub record AreLanesOf (marks : List Mark) (lanes : List Lane) : Type 0 where
  pub sorted : AreSorted lanes
  pub touched : (lane : Lane) → list_any (is_lane lane) lanes ≡ list_any (touches lane) marks

-- a lane among sorted ones, where it isn't there yet
abbrev pub with_lane : Lane → List Lane → List Lane
with_lane lane [] = lane ∷ []
with_lane lane (first ∷ rest) =
    if is_above first lane then first ∷ with_lane lane rest
    else if is_above lane first then lane ∷ first ∷ rest
    else first ∷ rest

abbrev pub put_named : Option Lane → List Lane → List Lane
put_named None lanes = lanes
put_named (Some lane) lanes = with_lane lane lanes

-- the lanes that a mark touches, among sorted ones
abbrev pub put_touched : Mark → List Lane → List Lane
put_touched mark lanes = put_named mark.names (with_lane mark.lane lanes)
