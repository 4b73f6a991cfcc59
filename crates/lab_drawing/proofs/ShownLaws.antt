-- A word that a line shows is read as the line shows it.
use Rattle.std.proofs.Common.{◌≡◌, ◌≢◌, ◌<◌, ℕ, ◌^◌, ◌==◌, Bool, true, false, not, List, [], ◌∷◌, ◌++◌, append-nil, codes, decimal, if◌then◌else◌, Option, Some, None, option_map, option_and_then, refl, sym, ap, ◌∙◌}
use Rattle.std.proofs.lemmas.Bool.{and_parts}
use Rattle.std.specs.List.{list_all}
use Rattle.std.specs.Option.{option_or, option_to_list}
use Rattle.evl_base.specs.declared.stage.Stage as stages
use Rattle.evl_base.specs.declared.stage.Stage.TheVariants as stage
use Rattle.lab_traces.specs.Parts.{Lacks}
use Rattle.lab_drawing.specs.Lanes.{lane_text}
use Rattle.lab_drawing.specs.Shown.{Word, WordFits, core, free_stax, held_stax, lane_of, line_showing, mutex, stage_words, word_stands, word_text}
use Rattle.lab_drawing.specs.Standings.{others, stand_after}
use Rattle.lab_drawing.specs.Texts.{around_part, number_in, past_front}
use Rattle.lab_drawing.specs.Words.{bar, held_at, lane_named, number_behind, word_shown, standing_by}
use Rattle.lab_drawing.specs.declared.lanes.Lane.{Lane}
use Rattle.lab_drawing.specs.declared.lanes.Lane.TheVariants.{Mutex, Stax}
use Rattle.lab_drawing.specs.declared.moments.Condition.{Condition}
use Rattle.lab_drawing.specs.declared.moments.Condition.TheVariants.{Inband, Oob}
use Rattle.lab_drawing.specs.declared.moments.Standing.{Standing}
use Rattle.lab_drawing.proofs.KeyLaws.{apart, head_of, tail_of}
use Rattle.lab_drawing.proofs.TextLaws.{decimal_lacks, number_back, past_at, past_lacks}

-- ---- around a part

-- no such byte is before it
around_first : (c : ℕ) (part front behind : List ℕ) → Lacks c front → around_part (c ∷ part) (front ++ c ∷ (part ++ behind)) ≡ Some (front, behind)
unfolding around_part
around_first c part [] behind h = rw (past_at (c ∷ part) (c ∷ (part ++ behind)) behind refl) refl
around_first c part (x ∷ front) behind h =
    let (here, more) = and_parts (not (x == c)) (list_all (λ b. not (b == c)) front) h in
    let none : past_front (c ∷ part) (x ∷ (front ++ c ∷ (part ++ behind))) ≡ None = past_lacks (c ∷ part) (x ∷ (front ++ c ∷ (part ++ behind))) (λ r e. apart x c here (head_of e)) in
    rw (none, around_first c part front behind more) refl

-- its byte isn't in the text
around_lacking : (c : ℕ) (part text : List ℕ) → Lacks c text → around_part (c ∷ part) text ≡ None
unfolding around_part
around_lacking c part [] h = rw (past_lacks (c ∷ part) [] (λ r e. cc)) refl
around_lacking c part (x ∷ text) h =
    let (here, more) = and_parts (not (x == c)) (list_all (λ b. not (b == c)) text) h in
    rw (past_lacks (c ∷ part) (x ∷ text) (λ r e. apart x c here (head_of e)), around_lacking c part text more) refl

-- a front part without a bar, with a space after it, does not begin with a bar
no_bar_next : (front behind more : List ℕ) → Lacks 124 front → front ++ 32 ∷ behind ≢ 124 ∷ more
no_bar_next [] behind more h e = apart 124 32 refl (sym (head_of e))
no_bar_next (x ∷ front) behind more h e = apart x 124 (and_parts (not (x == 124)) (list_all (λ b. not (b == 124)) front) h).0 (head_of e)

around_bar : (front behind : List ℕ) → Lacks 124 front → around_part bar (front ++ (bar ++ behind)) ≡ Some (front, behind)
unfolding around_part
around_bar [] behind h = rw (past_at bar (bar ++ behind) behind refl) refl
around_bar (x ∷ front) behind h =
    let more : Lacks 124 front = (and_parts (not (x == 124)) (list_all (λ b. not (b == 124)) front) h).1 in
    let none : past_front bar (x ∷ (front ++ (bar ++ behind))) ≡ None = past_lacks bar (x ∷ (front ++ (bar ++ behind))) (λ r e. no_bar_next front (124 ∷ 32 ∷ behind) (32 ∷ r) more (tail_of e)) in
    rw (none, around_bar front behind more) refl

-- ---- the lane

number_after : (word : List ℕ) (n : ℕ) → n < 2 ^ 16 → number_behind word (word ++ decimal n) ≡ Some n
unfolding past_front
number_after word n small = ap (option_and_then (number_in 16)) (past_at word (word ++ decimal n) (decimal n) refl) ∙ number_back n small

no_number : (word : List ℕ) (c d : ℕ) (text : List ℕ) → not (c == d) ≡ true → number_behind (d ∷ word) (c ∷ text) ≡ None
unfolding past_front
no_number word c d text other = ap (option_and_then (number_in 16)) (past_lacks (d ∷ word) (c ∷ text) (λ r e. apart c d other (head_of e)))

abbrev lane_fits : Word → Type 0
lane_fits word = (lane_named (lane_text (lane_of word)) ≡ Some (lane_of word)) × Lacks 58 (lane_text (lane_of word))

stax_named : (n : ℕ) → n < 2 ^ 16 → (lane_named (codes "stax " ++ decimal n) ≡ Some (Stax n)) × Lacks 58 (codes "stax " ++ decimal n)
stax_named n small = (
  ap (λ (o : Option ℕ). option_or (option_map (λ k. Stax k) o) (option_or (option_map (λ k. Mutex k) (number_behind (codes "mutex ") (codes "stax " ++ decimal n))) None)) (number_after (codes "stax ") n small),
  decimal_lacks 58 n refl,
)

mutex_named : (n : ℕ) → n < 2 ^ 16 → (lane_named (codes "mutex " ++ decimal n) ≡ Some (Mutex n)) × Lacks 58 (codes "mutex " ++ decimal n)
mutex_named n small = (
  (λ i. option_or (option_map (λ k. Stax k) (no_number (codes "tax ") 109 115 (codes "utex " ++ decimal n) refl i)) (option_or (option_map (λ k. Mutex k) (number_after (codes "mutex ") n small i)) None)),
  decimal_lacks 58 n refl,
)

named : (word : Word) → WordFits word → lane_fits word
named (free_stax number) fits = stax_named number fits
named (held_stax number at count) fits = stax_named number fits.0
named (mutex number owner claimed) fits = mutex_named number fits.0
named (core holder) fits = (refl, refl)

shown_at : (front name how : List ℕ) (lane : Lane) → Lacks 124 front → Lacks 58 name → lane_named name ≡ Some lane → word_shown (front ++ (bar ++ (name ++ (codes ": " ++ how)))) ≡ Some (lane, how)
shown_at front name how lane f n is = rw (around_bar front (name ++ (codes ": " ++ how)) f, around_first 58 (32 ∷ []) name how n, is) refl

-- ---- its state

held_as : (text : List ℕ) (condition : Condition) (number count : ℕ) (more : List ℕ) → Lacks 44 text → held_at text ≡ Some condition → count < 2 ^ 16
    → standing_by (Stax number) (text ++ (codes ", " ++ (decimal count ++ 32 ∷ more))) ≡ Some (record { lane = Stax number; condition = condition; number = Some count; policy = None; lender = None })
held_as text condition number count more h at small =
    rw (around_first 44 (32 ∷ []) text (decimal count ++ 32 ∷ more) h, at, around_first 32 [] (decimal count) more (decimal_lacks 32 count refl), number_back count small) refl

held_so : (at : stages.Stage) (number count : ℕ) (more : List ℕ) → count < 2 ^ 16
    → standing_by (Stax number) (stage_words at ++ (codes ", " ++ (decimal count ++ 32 ∷ more))) ≡ word_stands (held_stax number at count)
held_so stage.Inband number count more small = held_as (codes "in-band") Inband number count more refl refl small
held_so stage.Oob number count more small = held_as (codes "out-of-band") Oob number count more refl refl small

held : (at : stages.Stage) (number count : ℕ) → count < 2 ^ 16 → standing_by (Stax number) (word_text (held_stax number at count)) ≡ word_stands (held_stax number at count)
held at number count small = by (count == 1)
  where
    by : (b : Bool) → standing_by (Stax number) (stage_words at ++ (codes ", " ++ (decimal count ++ (if b then codes " holder" else codes " holders")))) ≡ word_stands (held_stax number at count)
    by true = held_so at number count (codes "holder") small
    by false = held_so at number count (codes "holders") small

stands : (word : Word) → WordFits word → standing_by (lane_of word) (word_text word) ≡ word_stands word
stands (free_stax number) fits = rw (around_lacking 44 (32 ∷ []) (codes "free") refl) refl
stands (held_stax number at count) fits = held at number count fits.1
stands (mutex number (Some owner) true) fits =
    rw (around_first 44 (codes " claimed") (codes "T" ++ decimal owner) [] (decimal_lacks 44 owner refl), number_after (codes "T") owner fits.1) refl
stands (mutex number None true) fits = rw (around_first 44 (codes " claimed") (codes "free") [] refl, no_number [] 102 84 (codes "ree") refl) refl
stands (mutex number (Some owner) false) fits =
    ap (standing_by (Mutex number)) (append-nil (codes "T" ++ decimal owner))
    ∙ rw (around_lacking 44 (codes " claimed") (codes "T" ++ decimal owner) (decimal_lacks 44 owner refl), number_after (codes "T") owner fits.1) refl
stands (mutex number None false) fits = rw (around_lacking 44 (codes " claimed") (codes "free") refl) refl
stands (core None) fits = refl
stands (core (Some holder)) fits = rw (number_after (codes "taken by T") holder fits) refl

-- the word that a line shows has the state that is shown, and the others have theirs from before
pub word_is_shown : (front : List ℕ) (word : Word) (before : List Standing) → Lacks 124 front → WordFits word
    → stand_after (word_shown (line_showing front word)) before ≡ others (lane_of word) before ++ option_to_list (word_stands word)
word_is_shown front word before h fits =
    let lane = named word fits in
    ap (λ (told : Option (Lane × List ℕ)). stand_after told before) (shown_at front (lane_text (lane_of word)) (word_text word) (lane_of word) h lane.1 lane.0)
    ∙ ap (λ (o : Option Standing). others (lane_of word) before ++ option_to_list o) (stands word fits)
