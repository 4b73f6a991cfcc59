-- Bytes that were read in parts.
use Rattle.std.proofs.Common.{◌≡◌, ℕ, ◌≤◌, List, [], ◌++◌, take, length, Option, Some, None, ◌∙◌, sym, ap, append-nil, append_assoc}
use Rattle.std.proofs.Math.Seq.{take-append_seam}
use Rattle.std.proofs.lemmas.List.{take_all}
use Rattle.std.specs.Io.KnownBytes.{Consumes, IsAtEnd}
use Rattle.evl_shell.specs.Readings.{IsFrontOf}

-- what was read up to the end is the input
pub input-ended : (most : ℕ) (known left rest : Option (List ℕ)) (text buffer : List ℕ) (count : ℕ) → length text ≤ most → Consumes known left text
    → Consumes left rest (take count buffer) → count ≡ 0 → IsAtEnd rest → IsFrontOf most known text
input-ended most None left rest text buffer count fits h k zero end = tt
input-ended most (Some a) None rest text buffer count fits h k zero end = absurd h
input-ended most (Some a) (Some b) None text buffer count fits h k zero end = absurd k
input-ended most (Some a) (Some b) (Some c) text buffer count fits h k zero end =
    let empty : b ≡ [] = k ∙ ap (λ (n : ℕ). take n buffer ++ c) zero ∙ end in
    let all : a ≡ text = h ∙ ap (λ (s : List ℕ). text ++ s) empty ∙ append-nil text in
    sym (ap (take most) all ∙ take_all most text fits)

-- what was read up to the most that is read is the input
pub input-full : (most : ℕ) (known left : Option (List ℕ)) (text : List ℕ) → length text ≡ most → Consumes known left text → IsFrontOf most known text
input-full most None left text full h = tt
input-full most (Some a) None text full h = absurd h
input-full most (Some a) (Some b) text full h =
    sym (ap (take most) h ∙ ap (λ (n : ℕ). take n (text ++ b)) (sym full) ∙ take-append_seam text b)

-- and grows by a part more
pub consumes-more : (known left rest : Option (List ℕ)) (text part : List ℕ) → Consumes known left text → Consumes left rest part → Consumes known rest (text ++ part)
consumes-more None left rest text part h k = tt
consumes-more (Some a) None rest text part h k = absurd h
consumes-more (Some a) (Some b) None text part h k = absurd k
consumes-more (Some a) (Some b) (Some c) text part h k = h ∙ (ap (λ (s : List ℕ). text ++ s) k ∙ sym (append_assoc text part c))
