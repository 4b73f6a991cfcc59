-- The lines of a trace are read as what they say, and what a line is read as has just its text.
use Rattle.std.proofs.Common.{arith, ◌≡◌, ℕ, ◌==◌, ◌<◌, nat_eq, Bool, true, false, not, List, [], ◌∷◌, ◌++◌, length, codes, decimal, if◌then◌else◌, Option, Some, None, Result, option_map, refl, sym, ap, ◌∙◌, append_assoc}
use Rattle.std.proofs.lemmas.Bool.{and_parts, eq-eqb, eqb-true, false_from_ne_true, false≢true}
use Rattle.std.proofs.lemmas.Fmt.{decimal_nonempty}
use Rattle.std.proofs.lemmas.List.{append_cancel_right}
use Rattle.std.proofs.lemmas.Slice.Eq.{starts_is}
use Rattle.std.specs.List.{list_all, starts_with}
use Rattle.evl_base.specs.Call.{call_text}
use Rattle.evl_base.specs.Play.{play_text}
use Rattle.evl_base.specs.Reply.{outcome_text}
use Rattle.evl_base.specs.declared.play.Play.{Play}
use Rattle.evl_base.specs.declared.refusal.Refusal.{Refusal}
use Rattle.evl_base.specs.declared.reply.Reply.{Reply}
use Rattle.evl_scenario.specs.declared.steps.Step.{Step}
use Rattle.evl_scenario.specs.declared.lines.BoardLine.{BoardLine}
use Rattle.evl_scenario.specs.Lines.{board_line_text, element_counts_text, line_feed, line_text, number_text, owner_counts_text, play_line_text}
use Rattle.evl_scenario.specs.Values.{past_front}
use Rattle.evl_scenario.specs.Widths.{StepFits}
use Rattle.lab_traces.specs.Entries.{EntryParts, NumberFits, PartsFit, entry_read, entry_text, step_parts}
use Rattle.lab_traces.specs.Lines.{Said, board, entry, play, BoardFits, SaidFits, board_read, line_read, said_text, spaced_read}
use Rattle.lab_traces.specs.Parts.{Lacks}
use Rattle.lab_traces.specs.Plays.{PlayFits, play_read}
use Rattle.lab_traces.proofs.BoardLaws.{board-back, board-whole}
use Rattle.lab_traces.proofs.CallTexts.{call-no_arrow}
use Rattle.lab_traces.proofs.EntryLaws.{entry-back, entry-whole}
use Rattle.lab_traces.proofs.NumberLaws.{decimal-lacks, is_no_digit}
use Rattle.lab_traces.proofs.OptionLaws.{map_some}
use Rattle.lab_traces.proofs.PartLaws.{past-whole}
use Rattle.lab_traces.proofs.PlayLaws.{play-back, play-whole}

-- ---- what a line begins with

other_first : (c : ℕ) (t r rest : List ℕ) → Lacks c t → 0 < length t → t ++ r ≡ c ∷ rest → ⊥
other_first c [] r rest h long same = omega arith
other_first c (x ∷ t) r rest h long same =
    let is : x ≡ c = cc in
    let differs : not (x == c) ≡ true = (and_parts (not (x == c)) (list_all (λ y. not (y == c)) t) h).0 in
    let equal : (x == c) ≡ true = eq-eqb x c is in
    false≢true (ap not (sym equal) ∙ differs)

pub starts_otherwise : (c : ℕ) (f t r : List ℕ) → Lacks c t → 0 < length t → starts_with nat_eq (t ++ r) (c ∷ f) ≡ false
starts_otherwise c f t r h long =
    false_from_ne_true (starts_with nat_eq (t ++ r) (c ∷ f)) (λ e.
    other_first c t r _ h long ((starts_is (λ a b. (eqb-true a b, eq-eqb a b)) (t ++ r) (c ∷ f) _ refl).0 e))

number_foreign : (c : ℕ) (n : Option ℕ) → NumberFits n → not (45 == c) ≡ true → is_no_digit c ≡ true → Lacks c (number_text n)
number_foreign c None fits h k = rw h refl
number_foreign c (Some n) fits h k = decimal-lacks c n k fits

number_long : (n : Option ℕ) → NumberFits n → 0 < length (number_text n)
number_long None fits = omega arith
number_long (Some n) fits = decimal_nonempty n fits

entry_rest : EntryParts → List ℕ
entry_rest parts = codes " T" ++ (decimal parts.thread ++ (codes " " ++ (parts.call ++ (codes " -> " ++ parts.answer))))

no_spaces : (parts : EntryParts) → PartsFit parts → past_front (codes "  ") (entry_text parts) ≡ None
unfolding entry_rest
no_spaces parts fits =
    rw (starts_otherwise 32 (codes " ") (number_text parts.number) (entry_rest parts) (number_foreign 32 parts.number fits.number refl refl) (number_long parts.number fits.number)) refl

no_board : (parts : EntryParts) → PartsFit parts → starts_with nat_eq (entry_text parts) (codes "board ") ≡ false
unfolding entry_rest
no_board parts fits =
    starts_otherwise 98 (codes "oard ") (number_text parts.number) (entry_rest parts) (number_foreign 98 parts.number fits.number refl refl) (number_long parts.number fits.number)

-- ---- what is written is read

pub line-back : (said : Said) → SaidFits said → line_read (said_text said) ≡ Some said
line-back (board line) fits = rw (board-back line fits) refl
line-back (entry parts) fits = rw (no_spaces parts fits, no_board parts fits, entry-back parts fits) refl
line-back (play p) fits = rw (play-back p fits) refl

-- ---- what is read was written so

unspaced_cases : (t : List ℕ) (said : Said) (v : Bool) → (if v then option_map board (board_read t) else option_map entry (entry_read t)) ≡ Some said → t ≡ said_text said
unspaced_cases t said true h = let (line, one, same) = map_some board (board_read t) said h in board-whole t line one ∙ ap said_text same
unspaced_cases t said false h = let (parts, one, same) = map_some entry (entry_read t) said h in entry-whole t parts one ∙ ap said_text same

line_cases : (t : List ℕ) (said : Said) (o : Option (List ℕ)) → past_front (codes "  ") t ≡ o → spaced_read t o ≡ Some said → t ≡ said_text said
line_cases t said None e h = unspaced_cases t said (starts_with nat_eq t (codes "board ")) h
line_cases t said (Some rest) e h =
    let (p, one, same) = map_some play (play_read rest) said h in
    past-whole (codes "  ") t rest e ∙ ap (λ (x : List ℕ). codes "  " ++ x) (play-whole rest p one) ∙ ap said_text same

pub line-whole : (t : List ℕ) (said : Said) → line_read t ≡ Some said → t ≡ said_text said
line-whole t said h = line_cases t said _ refl h

-- ---- the lines of steps

regrouped : (a b c d e f g h l : List ℕ) → a ++ (b ++ ((c ++ (d ++ (e ++ f))) ++ (g ++ (h ++ l)))) ≡ (a ++ ((b ++ c) ++ (d ++ (e ++ (f ++ (g ++ h)))))) ++ l
regrouped a b c d e f g h l = simp append_assoc

-- the line of a step is that of its parts
pub step_line : (number : Option ℕ) (step : Step) (answer : Result Reply Refusal) → line_text number step answer ≡ entry_text (step_parts number step answer) ++ line_feed
step_line number step answer =
    regrouped (number_text number) (codes " ") (codes "T") (decimal step.who.0) (codes " ") (call_text step.call) (codes " -> ") (outcome_text answer) line_feed

pub step_fits : (number : Option ℕ) (step : Step) (answer : Result Reply Refusal) → NumberFits number → StepFits step → PartsFit (step_parts number step answer)
step_fits number step answer fits step_is = record { number = fits; thread = step_is.0; call = call-no_arrow step.call step_is.1 }

-- ---- with a line feed after them

same_front : (a b c : List ℕ) → a ++ c ≡ b ++ c → a ≡ b
same_front a b c h = append_cancel_right a b c h

-- the line of a step is read as its parts
pub called-back : (t : List ℕ) (number : Option ℕ) (step : Step) (answer : Result Reply Refusal) → NumberFits number → StepFits step
    → t ++ line_feed ≡ line_text number step answer → line_read t ≡ Some (entry (step_parts number step answer))
called-back t number step answer fits step_is h =
    let said = entry (step_parts number step answer) in
    let text : t ≡ said_text said = same_front t (said_text said) line_feed (h ∙ step_line number step answer) in
    ap line_read text ∙ line-back said (step_fits number step answer fits step_is)

pub fire-back : (t : List ℕ) (p : Play) → PlayFits p → t ++ line_feed ≡ play_line_text p → line_read t ≡ Some (play p)
fire-back t p fits h =
    let said : Said = play p in
    let text : t ≡ said_text said = same_front t (said_text said) line_feed (h ∙ sym (append_assoc (codes "  ") (play_text p) line_feed)) in
    ap line_read text ∙ line-back said fits

eight : (a b c d e f g h l : List ℕ) → a ++ (b ++ (c ++ (d ++ (e ++ (f ++ (g ++ (h ++ l))))))) ≡ (a ++ (b ++ (c ++ (d ++ (e ++ (f ++ (g ++ h))))))) ++ l
eight a b c d e f g h l = simp append_assoc

pub opening-back : (t : List ℕ) (line : BoardLine) → BoardFits line → t ++ line_feed ≡ board_line_text line → line_read t ≡ Some (board line)
opening-back t line fits h =
    let said : Said = board line in
    let text : t ≡ said_text said = same_front t (said_text said) line_feed
    (h ∙ eight (codes "board threads=") (decimal line.threads) (codes " ") (element_counts_text line.elements) (codes " ") (owner_counts_text line.owners) (codes " limit=") (decimal line.limit) line_feed) in
    ap line_read text ∙ line-back said fits
