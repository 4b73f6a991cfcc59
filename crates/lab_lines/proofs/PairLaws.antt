-- The keys of words with their values, word by word.
use Rattle.std.proofs.Common.{◌≡◌, ◌∙◌, ◌+◌, ◌++◌, ◌∷◌, ◌<◌, ℕ, List, [], length, get_or, drop, is_some, if◌then◌else◌, Option, Some, None, refl, sym, ap, arith}
use Rattle.std.proofs.lemmas.List.{drop_all, drop_more}
use Rattle.lab_lines.specs.Lines.{equals_in, lengthened, pair_around, pair_before, pairs_of, up_to, value_end, with_rest}
use Rattle.lab_lines.specs.declared.places.Pair.{Pair}
use Rattle.lab_lines.specs.declared.places.Part.{Part}

-- the last of some pairs is lengthened
pub last_lengthened : (to : ℕ) (front : List Pair) (last : Pair) → lengthened to (front ++ last ∷ []) ≡ front ++ up_to to last ∷ []
last_lengthened to [] last = refl
last_lengthened to (pair ∷ []) last = refl
last_lengthened to (pair ∷ next ∷ others) last = ap (λ (ps : List Pair). pair ∷ ps) (last_lengthened to (next ∷ others) last)

-- a word that is a key: its pair comes after the others
module _ (line : List ℕ) (word : Part) (at : ℕ) (is : equals_in line word ≡ Some at) (rest : List Part) where
  -- the value before it goes no further
  ends : (end : ℕ) → value_end line end (word ∷ rest) ≡ end
  ends end = ap (λ (o : Option ℕ). if is_some o then end else value_end line word.to rest) is

  first : pairs_of line (word ∷ rest) ≡ pair_around word.from at (value_end line word.to rest) ∷ pairs_of line rest
  first = ap (λ (o : Option ℕ). pair_before word (value_end line word.to rest) (pairs_of line rest) o) is

  pub key_more : (pairs : List Pair) → with_rest line (pairs ++ pair_around word.from at word.to ∷ []) rest ≡ with_rest line pairs (word ∷ rest)
  key_more [] = sym first
  key_more (pair ∷ []) =
      ap (λ (ps : List Pair). pair ∷ ps) (sym first) ∙ ap (λ (end : ℕ). up_to end pair ∷ pairs_of line (word ∷ rest)) (sym (ends pair.value.to))
  key_more (pair ∷ next ∷ others) = ap (λ (ps : List Pair). pair ∷ ps) (key_more (next ∷ others))

-- a word that is none: the last value goes on up to its end
module _ (line : List ℕ) (word : Part) (none : equals_in line word ≡ None) (rest : List Part) where
  goes_on : (end : ℕ) → value_end line end (word ∷ rest) ≡ value_end line word.to rest
  goes_on end = ap (λ (o : Option ℕ). if is_some o then end else value_end line word.to rest) none

  no_first : pairs_of line (word ∷ rest) ≡ pairs_of line rest
  no_first = ap (λ (o : Option ℕ). pair_before word (value_end line word.to rest) (pairs_of line rest) o) none

  pub value_more : (pairs : List Pair) → with_rest line (lengthened word.to pairs) rest ≡ with_rest line pairs (word ∷ rest)
  value_more [] = sym no_first
  value_more (pair ∷ []) =
      (λ i. up_to (sym (goes_on pair.value.to) i) pair ∷ sym no_first i)
  value_more (pair ∷ next ∷ []) = ap (λ (ps : List Pair). pair ∷ ps) (value_more (next ∷ []))
  value_more (pair ∷ next ∷ another ∷ others) = ap (λ (ps : List Pair). pair ∷ ps) (value_more (next ∷ another ∷ others))

-- with no words after them they are as they are
all_pairs : (line : List ℕ) (pairs : List Pair) → with_rest line pairs [] ≡ pairs
all_pairs line [] = refl
all_pairs line (pair ∷ []) = refl
all_pairs line (pair ∷ next ∷ others) = ap (λ (ps : List Pair). pair ∷ ps) (all_pairs line (next ∷ others))

-- one word of some
pub pairs_on : (line : List ℕ) (words : List Part) (i : ℕ) (d : Part) (old new : List Pair) → i < length words
    → with_rest line old (drop i words) ≡ pairs_of line words → ((rest : List Part) → with_rest line new rest ≡ with_rest line old (get_or words i d ∷ rest))
    → with_rest line new (drop (i + 1) words) ≡ pairs_of line words
pairs_on line words i d old new less before more =
    more (drop (i + 1) words) ∙ ap (λ (ws : List Part). with_rest line old ws) (sym (drop_more words i d less)) ∙ before

-- all words are done
pub pairs_all : (line : List ℕ) (words : List Part) (i : ℕ) (pairs : List Pair) → i ≡ length words → with_rest line pairs (drop i words) ≡ pairs_of line words
    → pairs ≡ pairs_of line words
pairs_all line words i pairs end before =
    sym (all_pairs line pairs) ∙ ap (λ (ws : List Part). with_rest line pairs ws) (sym (ap (λ (n : ℕ). drop n words) end ∙ drop_all (length words) words (omega arith))) ∙ before
