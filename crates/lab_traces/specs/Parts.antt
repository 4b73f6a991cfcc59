-- The parts of a line's text.
use Rattle.std.specs.Prelude.{◌≡◌, ℕ, ◌==◌, ◌-◌, nat_eq, nat_lt, not, true, List, length, take, if◌then◌else◌, Option, Some, None}
use Rattle.std.specs.List.{before_first, after_first, ends_with, list_all, position_or_len}

-- what comes before the first such byte, and what after it
abbrev pub around : ℕ → List ℕ → Option (List ℕ × List ℕ)
around c text =
    if nat_lt (position_or_len (λ b. b == c) text) (length text)
    then Some (before_first (λ b. b == c) text, after_first (λ b. b == c) text)
    else None

-- what comes before this end of a text
abbrev pub before_end : List ℕ → List ℕ → Option (List ℕ)
before_end end text = if ends_with nat_eq text end then Some (take (length text - length end) text) else None

-- the byte doesn't stand in the text
abbrev pub Lacks : ℕ → List ℕ → Type 0
Lacks c text = list_all (λ b. not (b == c)) text ≡ true
