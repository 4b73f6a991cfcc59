-- The part of an input that is read, up to a bound.
use Rattle.std.specs.Prelude.{◌≡◌, ◌≤◌, ℕ, List, length, take, Option, IfSome}
use Rattle.std.specs.Io.KnownBytes.{Consumes}

-- all of the input where it is known, but for what is past the bound
abbrev pub IsFrontOf : ℕ → Option (List ℕ) → List ℕ → Type 0
IsFrontOf most known text = IfSome known (λ bytes. text ≡ take most bytes)

-- of the input at most so many bytes were read
abbrev pub ReadsAtMost : ℕ → Option (List ℕ) → Option (List ℕ) → Type 0
ReadsAtMost most known left = (front : List ℕ) × (length front ≤ most) × Consumes known left front
