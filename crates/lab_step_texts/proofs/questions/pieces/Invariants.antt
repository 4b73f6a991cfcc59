use Rattle.std.proofs.Common.{◌≡◌, ◌∷◌, ◌++◌, [], All, length, map}
use denote.Text.{Utf8}
use denote.Shadow.{shadow}
use Rattle.lab_step_texts.specs.Questions.{IsWithout, joined_by}
use Rattle.lab_step_texts.proofs.questions.pieces.Given as goal

abbrev pub invariant-loop-one : goal.invariant-loop-one
invariant-loop-one l = shadow (Utf8 l.rest) × (joined_by l.between (map (λ one. one.now) l.texts.items ++ l.rest ∷ []) ≡ l.text) × All (IsWithout l.between) (map (λ one. one.now) l.texts.items)

abbrev pub decreases-loop-one : goal.decreases-loop-one
decreases-loop-one l = length l.rest
