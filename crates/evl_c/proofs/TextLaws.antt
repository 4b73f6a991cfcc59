-- A text of lines that can't be read, and what C learns of callers.
use Rattle.std.proofs.Common.{◌≡◌, ℕ, List, length, ap, refl, Result, Ok, Err, IfOk}
use Rattle.evl_plans.specs.Traces.{Refuses}
use Rattle.lab_lines.specs.declared.texts.LinesFault.{LinesFault}
use Rattle.lab_lines.specs.declared.texts.LinesFault.TheVariants as lines
use Rattle.evl_c.specs.Callers.{Story, story_in}
use Rattle.evl_c.specs.Given.{fault_of}
use Rattle.evl_c.specs.declared.callers.Story.{Story as Telling}
use Rattle.evl_c.specs.declared.plays.Played.{Played}

-- the fault from which C learns of it is the one that refuses the play
pub refuses_unread : (why : LinesFault) → Refuses (Err (fault_of why)) (fault_of why)
refuses_unread lines.Text = refl
refuses_unread (lines.Line line unread) = refl
refuses_unread lines.Board = refl
refuses_unread lines.TooLong = refl
refuses_unread lines.Memory = tt

-- a story that is so in the one way is so in the other
pub story_as : (E : Type 0) (Was Is : Story → Type 0) (r : Result Telling E) → ((s : Story) → Was s → Is s) → IfOk r (λ told. Was (story_in told)) → IfOk r (λ told. Is (story_in told))
story_as E Was Is (Ok told) same h = same (story_in told) h
story_as E Was Is (Err e) same h = tt

pub played_is : (a b : List ℕ) (step : ℕ) → a ≡ b → ◌≡◌ {A = Played} (record { length = length a; step = step }) (record { length = length b; step = step })
played_is a b step same = ap (λ (text : List ℕ). record { length = length text; step = step }) same
