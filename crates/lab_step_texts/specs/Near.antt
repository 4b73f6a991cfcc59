-- Which word of facts may be meant in a text that isn't facts.
use Rattle.std.specs.Prelude.{ℕ, Bool, ◌&&◌, not, nat_le, List, [], ◌∷◌, codes, find, Option}
use Rattle.std.specs.List.{list_any}
use Rattle.std.specs.Str.{bytes_eq}
use Rattle.lab_scenario_orders.specs.Answers.{edits}
use Rattle.lab_scenario_orders.specs.Claims.{words_of}

abbrev pub fact_words : List (List ℕ)
fact_words =
    codes "holds" ∷ codes "held" ∷ codes "claimed" ∷ codes "inband" ∷ codes "oob" ∷ codes "free" ∷ codes "stax" ∷ codes "mutex"
    ∷ codes "nobody" ∷ codes "core" ∷ codes "has" ∷ codes "the" ∷ codes "not" ∷ codes "and" ∷ []

-- a word of facts may be meant by another one, which is none: it is at most two edits away
abbrev pub is_mistaken : List ℕ → List ℕ → Bool
is_mistaken known word = not (list_any (bytes_eq word) fact_words) && nat_le (edits word known) 2

abbrev pub is_word_for : List (List ℕ) → List ℕ → Bool
is_word_for words known = list_any (is_mistaken known) words

abbrev pub near_word : List ℕ → Option (List ℕ)
near_word text = find (is_word_for (words_of text)) fact_words
