-- C's view of a picture.
use Rattle.std.specs.Prelude.{◌≡◌, ℕ, Bool, nat_le, nat_eq, ◌&&◌, List, length, Option, Some, None, IfSome, Err, if◌then◌else◌}
use Rattle.evl_kernel.specs.state.States.{Handler}
use Rattle.evl_c.specs.Pictures.{Outcome, DrawsBytes, picture, beyond, neither, unread}
use Rattle.evl_c.specs.Plays as plays
use Rattle.evl_c.specs.Windows.{window}
use Rattle.evl_c.specs.declared.draws.Drawn.{Drawn}
use Rattle.evl_c.specs.declared.pictures.Form.{Form}
use Rattle.evl_c.specs.declared.pictures.Form.TheVariants.{Svg, Events}
use Rattle.lab_drawing.specs.declared.frames.Goes.TheVariants.{Down, Across}

-- whether a form is one of the four, and a page is counted from 1
abbrev pub is_asked : ℕ → ℕ → Bool
is_asked form page = nat_le form 3 && nat_le 1 page

-- the form of a number
abbrev pub form_of : ℕ → Form
form_of number =
    if nat_eq number 0 then Svg None else
    if nat_eq number 1 then Svg (Some Down) else
    if nat_eq number 2 then Svg (Some Across) else
    Events

-- the status of an outcome; where memory ran out there is no outcome
abbrev pub status_of : Option Outcome → ℕ
status_of (Some (picture text pages)) = 0
status_of (Some (beyond pages)) = 7
status_of (Some (neither line e)) = plays.status_of (Err e)
status_of (Some unread) = 1
status_of None = 4

abbrev pub nothing : Drawn
nothing = record { length = 0; pages = 0; line = 0; step = 0 }

-- what else C learns of it: of a picture its length, and of how many pages it is one; of a text that isn't drawn the line that is
-- none of a trace, and the step at fault
abbrev pub drawn_of : Option Outcome → Drawn
drawn_of (Some (picture text pages)) = record nothing { length = length text; pages = pages }
drawn_of (Some (beyond pages)) = record nothing { pages = pages }
drawn_of (Some (neither line e)) = record nothing { line = line; step = plays.step_of (Err e) }
drawn_of (Some unread) = nothing
drawn_of None = nothing

-- what is in the buffer then
abbrev pub shown : Option Outcome → ℕ → List ℕ → List ℕ
shown (Some (picture text pages)) start room = window text start room
shown _ start room = room

-- drawing ended somehow, and reported its end
pub record Draws (bank : List Handler) (form page : ℕ) (text : List ℕ) (start : ℕ) (old new : List ℕ) (told : Drawn) (status : ℕ) : Type 0 where
  pub outcome : Option Outcome
  pub is_so : IfSome outcome (DrawsBytes bank page (form_of form) text)
  pub shown_is : new ≡ shown outcome start old
  pub told_is : told ≡ drawn_of outcome
  pub status_is : status ≡ status_of outcome
