-- The texts that are read, and the names of files.
use Rattle.std.specs.Prelude.{◌≡◌, ℕ, List, [], ◌∷◌, codes, Bool, true, if◌then◌else◌, Option, Some, None, IfSome}
use Rattle.std.specs.Str.{bytes_eq, is_utf8}

-- the text that bytes are; none where they are no UTF-8
abbrev pub text_in : List ℕ → List ℕ
text_in bytes = if is_utf8 bytes then bytes else []

-- `-` names the input
abbrev pub is_input : List ℕ → Bool
is_input name = bytes_eq name (codes "-")

-- where no file is named the input is read too
abbrev pub reads_input : Option (List ℕ) → Bool
reads_input None = true
reads_input (Some name) = is_input name

-- a text is all of the input, where that is known
abbrev pub IsAllOf : Option (List ℕ) → List ℕ → Type 0
IsAllOf known text = IfSome known (λ bytes. text ≡ bytes)

-- the names that are gone through: that of the input where none is given
abbrev pub names_or_input : List (List ℕ) → List (List ℕ)
names_or_input [] = codes "-" ∷ []
names_or_input (name ∷ names) = name ∷ names
