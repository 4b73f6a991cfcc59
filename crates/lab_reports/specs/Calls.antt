-- The parts of a call's text: its word, and its keys with their values.
use Rattle.std.specs.Prelude.{◌≡◌, ℕ, ◌+◌, ◌==◌, List, [], ◌∷◌, ◌++◌, take, if◌then◌else◌, Option, Some, None, option_map, unwrap_or}
use Rattle.std.specs.List.{after_first, before_first, join_with_byte, slice_split}
use Rattle.evl_base.specs.Fields.{Keyed}
use Rattle.lab_traces.specs.Parts.{Lacks}
use Rattle.evl_base.specs.Fields.{value_text}

-- a key and its value
abbrev pub Pair : Type 0
Pair = List ℕ × List ℕ

-- what is before the last space, and what after it
abbrev pub before_or_here : ℕ → List ℕ → Option (List ℕ × List ℕ) → Option (List ℕ × List ℕ)
before_or_here byte rest (Some (front, back)) = Some (byte ∷ front, back)
before_or_here byte rest None = if byte == 32 then Some ([], rest) else None

abbrev pub around_last_space : List ℕ → Option (List ℕ × List ℕ)
around_last_space [] = None
around_last_space (byte ∷ rest) = before_or_here byte rest (around_last_space rest)

-- the pairs of a key and of the pieces after it, which were cut at each `=`: a piece is a value with the next key after
-- its last space, and the last piece is a value; where a piece has no space, all from there on is the value
abbrev pub pairs_behind : List ℕ → List (List ℕ) → List Pair
pairs_behind key [] = []
pairs_behind key (piece ∷ []) = (key, piece) ∷ []
pairs_behind key (piece ∷ next ∷ more) =
    unwrap_or (option_map (λ (value, key_behind). (key, value) ∷ pairs_behind key_behind (next ∷ more)) (around_last_space piece))
    ((key, join_with_byte 61 (piece ∷ next ∷ more)) ∷ [])

-- the first piece is the first key
abbrev pub pairs_of : List (List ℕ) → List Pair
pairs_of [] = []
pairs_of (key ∷ more) = pairs_behind key more

abbrev pub pieces : List ℕ → List (List ℕ)
pieces text = slice_split (λ byte. byte == 61) text

-- the word of a call is before its first space
abbrev pub call_word : List ℕ → List ℕ
call_word call = before_first (λ byte. byte == 32) call

-- its pairs stand after that: the first eight, and no call has so many
abbrev pub call_pairs : List ℕ → List Pair
call_pairs call = take 8 (pairs_of (pieces (after_first (λ byte. byte == 32) call)))

-- ---- joined

-- each key with its value, and a space before it
abbrev pub pairs_text : List Pair → List ℕ
pairs_text [] = []
pairs_text (pair ∷ more) = 32 ∷ (pair.0 ++ 61 ∷ (pair.1 ++ pairs_text more))

-- no space and no `=` is in a key, and no `=` in a value
abbrev pub ArePairs : List Pair → Type 0
ArePairs [] = Unit {0}
ArePairs (pair ∷ more) = Lacks 32 pair.0 × Lacks 61 pair.0 × Lacks 61 pair.1 × ArePairs more

-- the text of a call is this word, in which no space is, and these pairs
pub record IsJoined (call word : List ℕ) (pairs : List Pair) : Type 0 where
  pub whole : call ≡ word ++ pairs_text pairs
  pub one_word : Lacks 32 word
  pub are_pairs : ArePairs pairs

-- a key of a call of the kernel and its value, as a trace has them
abbrev pub keyed_pair : Keyed → Pair
keyed_pair keyed = (keyed.0, value_text keyed.1)

-- ---- for private clauses

-- the pairs of what is left, if a key is there
abbrev pub rest_pairs : Option (List ℕ) → List Pair
rest_pairs None = []
rest_pairs (Some rest) = pairs_of (pieces rest)

-- one pair more is done of what was left, if there is one there
abbrev pub OneMore : List Pair → Option (List ℕ) → List Pair → Option (List ℕ) → Type 0
OneMore done left done_now left_now = (n : ℕ) → done_now ++ take n (rest_pairs left_now) ≡ done ++ take (n + 1) (rest_pairs left)

-- all of a text is the value of the key before it
abbrev pub IsAllValue : List ℕ → Type 0
IsAllValue text = (key : List ℕ) → pairs_behind key (pieces text) ≡ (key, text) ∷ []

-- a value is at the front of a text, and after a space the next key
pub record IsBeforeKey (text value : List ℕ) : Type 0 where
  pub rest : List ℕ
  pub whole : text ≡ value ++ 32 ∷ rest
  pub pairs : (key : List ℕ) → pairs_behind key (pieces text) ≡ (key, value) ∷ pairs_of (pieces rest)
