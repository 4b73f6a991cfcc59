-- Whole lines.
use Rattle.std.proofs.Common.{◌≡◌, inl, inr, ℕ, List, [], ◌∷◌, ◌++◌, codes, decimal, Option, Result, ◌∙◌, sym, ap, append_assoc, append-nil, refl, subst}
use Rattle.evl_base.specs.Play.{play_text}
use Rattle.evl_base.specs.Reply.{outcome_text}
use Rattle.evl_base.specs.declared.play.Play.{Play}
use Rattle.evl_base.specs.declared.refusal.Refusal.{Refusal}
use Rattle.evl_base.specs.declared.reply.Reply.{Reply}
use Rattle.evl_scenario.specs.declared.lines.BoardLine.{BoardLine}
use Rattle.evl_scenario.specs.declared.steps.Step.{Step}
use Rattle.evl_scenario.specs.Lines.{line_feed, EndsLine, AreLines, element_counts_text, owner_counts_text, board_line_text, number_text, step_text, line_text, play_line_text, play_lines}

feed-ends : EndsLine line_feed
feed-ends = record { front = []; whole = refl }

-- a line's end ends what comes before it too
pub ends-after : (xs ys : List ℕ) → EndsLine ys → EndsLine (xs ++ ys)
ends-after xs ys h = record { front = xs ++ h.front; whole = ap (λ (s : List ℕ). xs ++ s) h.whole ∙ sym (append_assoc xs h.front line_feed) }

-- lines after lines
pub lines-append : (xs ys : List ℕ) → AreLines xs → AreLines ys → AreLines (xs ++ ys)
lines-append xs ys h (inr k) = inr (ends-after xs ys k)
lines-append xs ys (inl none) (inl k) = inl (ap (λ (s : List ℕ). s ++ ys) none ∙ k)
lines-append xs ys (inr h) (inl k) =
    let P : List ℕ → Type 0 = λ s. AreLines (xs ++ s) in
    subst P (sym k) (inr (record { front = h.front; whole = append-nil xs ∙ h.whole }))

-- the first line is whole
pub board_line-whole : (line : BoardLine) → AreLines (board_line_text line)
board_line-whole line =
    inr (ends-after (codes "board threads=") _ (ends-after (decimal line.threads) _ (ends-after (codes " ") _ (ends-after (element_counts_text line.elements) _
    (ends-after (codes " ") _ (ends-after (owner_counts_text line.owners) _ (ends-after (codes " limit=") _ (ends-after (decimal line.limit) _ feed-ends))))))))

-- the line of a step is whole
pub line-whole : (number : Option ℕ) (step : Step) (answer : Result Reply Refusal) → AreLines (line_text number step answer)
line-whole number step answer =
    inr (ends-after (number_text number) _ (ends-after (codes " ") _ (ends-after (step_text step) _ (ends-after (codes " -> ") _ (ends-after (outcome_text answer) _ feed-ends)))))

-- the line of a play is whole
pub play_line-whole : (play : Play) → AreLines (play_line_text play)
play_line-whole play = inr (ends-after (codes "  ") _ (ends-after (play_text play) _ feed-ends))

pub play_lines-whole : (plays : List Play) → AreLines (play_lines plays)
play_lines-whole [] = inl refl
play_lines-whole (play ∷ rest) = lines-append (play_line_text play) (play_lines rest) (play_line-whole play) (play_lines-whole rest)
