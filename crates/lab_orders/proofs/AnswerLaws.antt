-- A text up to the end of an answer.
use Rattle.std.proofs.Common.{◌≡◌, ℕ, zero, suc, ◌+◌, Bool, true, false, List, [], ◌∷◌, ◌++◌, drop, take, refl, sym, ap, ◌∙◌, add-one}
use Rattle.std.specs.Prelude.{if◌then◌else◌}
use Rattle.lab_orders.specs.Answers.{answer_of, is_end}

abbrev answer_by : ℕ → List ℕ → Bool → List ℕ
answer_by b bs ended = if ended then [] else b ∷ answer_of bs

pub answer_ended : (text : List ℕ) → is_end text ≡ true → answer_of text ≡ []
answer_ended [] e = refl
answer_ended (b ∷ bs) e = ap (answer_by b bs) e

goes_on : (text : List ℕ) (place : ℕ) → is_end (drop place text) ≡ false → take (suc place) text ++ answer_of (drop (suc place) text) ≡ take place text ++ answer_of (drop place text)
goes_on [] zero e = refl
goes_on [] (suc place) e = refl
goes_on (b ∷ bs) zero e = sym (ap (answer_by b bs) e)
goes_on (b ∷ bs) (suc place) e = ap (λ (rest : List ℕ). b ∷ rest) (goes_on bs place e)

-- one byte more
pub answer_more : (text : List ℕ) (place : ℕ) → is_end (drop place text) ≡ false → take (place + 1) text ++ answer_of (drop (place + 1) text) ≡ take place text ++ answer_of (drop place text)
answer_more text place e = ap (λ (n : ℕ). take n text ++ answer_of (drop n text)) (add-one place) ∙ goes_on text place e
