-- A word without quotes where a value is wanted.
use Rattle.std.specs.Prelude.{ℕ, ◌==◌, Bool, false, ◌&&◌, ◌||◌, List, [], ◌∷◌, ◌++◌, codes, find, Option}
use Rattle.std.specs.Char.{is_ascii_alphabetic, is_ascii_alphanumeric}
use Rattle.std.specs.List.{list_all}
use Rattle.lab_faults.specs.Steps.{bytes_between, text_between}
use Rattle.lab_faults.specs.declared.items.Item.{Item}

-- a letter, a digit, a space, a hyphen or a low line
abbrev pub is_worded : ℕ → Bool
is_worded byte = is_ascii_alphanumeric byte || (byte == 32 || (byte == 45 || byte == 95))

-- such bytes, of which a letter is the first
abbrev pub is_worded_text : List ℕ → Bool
is_worded_text [] = false
is_worded_text (first ∷ rest) = is_ascii_alphabetic first && list_all is_worded rest

-- the key whose value begins at a place and is such a text
abbrev pub unquoted_at : List ℕ → List Item → ℕ → Option Item
unquoted_at text items at = find (λ item. item.value.0 == at && is_worded_text (bytes_between text item.value)) items

abbrev pub quotes_text : List ℕ → List ℕ → List ℕ
quotes_text key word =
    key ++ (codes " = " ++ (word ++ (codes ": a word stands in quotes, as " ++ (key ++ (codes " = \"" ++ (word ++ codes "\"; only numbers, true and false stand without"))))))

-- what is said of such a value
abbrev pub unquoted_text : List ℕ → Item → List ℕ
unquoted_text text item = quotes_text (text_between text item.key) (text_between text item.value)
