-- Texts and numbers of JSON, and what is between values.
use Rattle.std.specs.Prelude.{ℕ, Bool, false, List, [], ◌∷◌, ◌++◌, codes, decimal, if◌then◌else◌, Option, Some, None}
use Rattle.serde_json.specs.Data.{string}
use Rattle.serde_json.specs.Written.{compact_text}

-- a text in quotes, with escapes
abbrev pub json_text : List ℕ → List ℕ
json_text text = compact_text (string text)

-- what is before each of several values but the first
abbrev pub comma : Bool → List ℕ
comma is_first = if is_first then [] else codes ", "

-- values one after the other, with a comma and a space between
abbrev pub json_list : Bool → List (List ℕ) → List ℕ
json_list is_first [] = []
json_list is_first (value ∷ values) = comma is_first ++ (value ++ json_list false values)

abbrev pub number_json : Option ℕ → List ℕ
number_json None = codes "null"
number_json (Some number) = decimal number

-- the name of a further member of an object
abbrev pub name_json : List ℕ → List ℕ
name_json name = codes ", \"" ++ (name ++ codes "\": ")
