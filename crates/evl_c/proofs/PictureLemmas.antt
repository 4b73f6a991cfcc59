-- The picture of a text, by what each call of the body draws.
use Rattle.std.proofs.Common.{◌≡◌, ◌∙◌, ◌⊎◌, inl, inr, ℕ, ◌-◌, List, Option, Some, None, Result, map, refl, sym, subst}
use Rattle.std.specs.Prelude.{IfSome}
use Rattle.std.specs.List.{All}
use Rattle.evl_kernel.specs.state.States.{Handler}
use Rattle.evl_scenario.specs.declared.faults.Fault.{Fault}
use Rattle.evl_scenario.specs.declared.faults.Fault.TheVariants.{Text, Board, Step, Memory, Write}
use Rattle.evl_plans.specs.Traces.{Refuses}
use Rattle.lab_traces.specs.Says.{IsLine, IsMisread, read_of, says_some, text_of, whole_lines}
use Rattle.lab_traces.specs.declared.traces.Misread.TheVariants as misread
use Rattle.lab_traces.specs.declared.traces.TraceLine.{TraceLine}
use Rattle.lab_drawing.specs.declared.frames.Goes.{Goes}
use Rattle.lab_drawing.specs.declared.marks.Mark.{Mark}
use Rattle.lab_reports.specs.Events.{events_text}
use Rattle.evl_c.specs.Given.{IsUnreadAs}
use Rattle.lab_caller_pictures.specs.Drawings.{IsPicture, Origin}
use Rattle.evl_c.specs.Pictures.{AreLinesOf, DrawsGiven, DrawsPage, DrawsPlayed, Ends, Outcome, events_of, of_fault, outcome_of, picture}
use Rattle.evl_c.specs.declared.pictures.Form.{Form}
use Rattle.evl_c.specs.declared.pictures.Picture.{Picture}
use Rattle.evl_c.specs.declared.pictures.Undrawn.{Undrawn}

-- what comes of a body in the one way comes of it in the other
pub ends_as : (Was Is : Outcome → Type 0) (r : Result Picture Undrawn) → ((o : Outcome) → Was o → Is o) → Ends Was r → Ends Is r
ends_as Was Is r same e = by (outcome_of r) e
  where
    by : (end : Option Outcome) → IfSome end Was → IfSome end Is
    by (Some o) e = same o e
    by None e = tt

pub events_is : (marks : List Mark) → events_text marks ≡ events_of marks
unfolding events_of
events_is marks = refl

-- ---- a page

pub is_page : (asked : ℕ) (goes : Option Goes) (origin : Origin) (marks : List Mark) (before all : ℕ) (text : List ℕ) → before ≡ asked - 1 → IsPicture origin goes marks before text
    → DrawsPage asked goes origin marks all (picture text all)
is_page asked goes origin marks before all text is h = (text, subst (λ (n : ℕ). IsPicture origin goes marks n text) is h, refl)

-- ---- a text

pub lines_are : (text read : List ℕ) (lines items : List TraceLine) → lines ≡ items → read ≡ text → map read_of items ≡ map says_some items → whole_lines (map text_of items) ≡ read
    → All (λ line. IsLine (text_of line)) items → AreLinesOf text lines
lines_are text read lines items same is reads whole alone =
    subst (λ (l : List TraceLine). AreLinesOf text l) (sym same) (record { read = reads; whole = whole ∙ is; alone = alone })

pub line_of_misread : (text : List ℕ) (m : ℕ) → (misread.Line m ≡ misread.Memory) ⊎ ((n : ℕ) × (misread.Line m ≡ misread.Line n) × IsMisread text n) → IsMisread text m
line_of_misread text m (inl h) = cc
line_of_misread text m (inr h) = let same : m ≡ h.0 = cc (h.1) in subst (λ (n : ℕ). IsMisread text n) (sym same) h.2

-- a fault for which a text isn't played
pub unplayed : (bank : List Handler) (page : ℕ) (form : Form) (text : List ℕ) (line : ℕ) (made : Result (List ℕ) Fault) (e : Fault) → Refuses made e → IfSome (of_fault line e) (DrawsPlayed bank page form text line made)
unplayed bank page form text line made Text h = rw h refl
unplayed bank page form text line made Board h = rw h refl
unplayed bank page form text line made (Step n) h = rw h refl
unplayed bank page form text line made Memory h = tt
unplayed bank page form text line made Write h = tt

-- a fault of a text of lines
pub undrawn : (bank : List Handler) (page : ℕ) (form : Form) (text : List ℕ) (line : ℕ) (e : Fault) → IsUnreadAs text e → IfSome (of_fault line e) (DrawsGiven bank page form text line)
undrawn bank page form text line Text h = inr (Text, h, refl)
undrawn bank page form text line Board h = inr (Board, h, refl)
undrawn bank page form text line (Step n) h = inr (Step n, h, refl)
undrawn bank page form text line Memory h = tt
undrawn bank page form text line Write h = tt
