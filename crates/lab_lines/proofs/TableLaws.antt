-- The line of a byte, by that of one before it.
use Rattle.std.proofs.Common.{arith, ◌≡◌, ◌≤◌, ◌∙◌, ◌+◌, ◌-◌, ◌==◌, ℕ, List, length, min, take, drop, cond, refl, sym, ap}
use Rattle.std.proofs.lemmas.List.{drop-take, length-take, take-take}
use Rattle.std.proofs.lemmas.List.Sums.{count_by-le-length, sum_by-take-drop}
use Rattle.lab_lines.specs.Tables.{ends_in, line_at}

-- the ends of lines in front of a byte are those in front of one before it, and those between
ends_split : (text : List ℕ) (a m : ℕ) → ends_in (take (a + m) text) ≡ ends_in (take a text) + ends_in (take m (drop a text))
ends_split text a m =
    sym (sum_by-take-drop (λ (byte : ℕ). cond {A = ℕ} (byte == 10) 1 0) (take (a + m) text) a)
    ∙ ap (λ (xs : List ℕ). ends_in xs + ends_in (drop a (take (a + m) text))) (take-take a (a + m) text (omega arith))
    ∙ ap (λ (xs : List ℕ). ends_in (take a text) + ends_in xs) (drop-take a m text)

-- it is the first one at the beginning
pub line_first : (text : List ℕ) → 1 ≡ line_at text 0
unfolding line_at
line_first text = refl

pub line_is : (text : List ℕ) (at : ℕ) → 1 + ends_in (take at text) ≡ line_at text at
unfolding line_at
line_is text at = refl

pub line_on : (text : List ℕ) (a b : ℕ) → a ≤ b → line_at text b ≡ line_at text a + ends_in (take (b - a) (drop a text))
line_on text a b less =
    let same : a + (b - a) ≡ b = omega (arith, less) in
    let whole : ends_in (take b text) ≡ ends_in (take a text) + ends_in (take (b - a) (drop a text)) =
    ap (λ (n : ℕ). ends_in (take n text)) (sym same) ∙ ends_split text a (b - a) in
    omega (arith, whole, line_is text a, line_is text b)

-- a text of so many bytes has at most one line more
pub line_few : (text : List ℕ) (at : ℕ) → line_at text at ≤ 1 + length text
line_few text at = omega (arith, line_is text at, count_by-le-length (λ (byte : ℕ). byte == 10) (take at text), length-take at text)
