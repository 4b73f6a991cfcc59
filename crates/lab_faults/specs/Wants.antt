-- The words in which values are asked for, and near words.
use Rattle.std.specs.Prelude.{ℕ, nat_eq, nat_le, nat_lt, Bool, ◌&&◌, ◌||◌, List, [], ◌∷◌, ◌++◌, codes, decimal, filter, find, length, if◌then◌else◌, Option, None, Some}
use Rattle.std.specs.List.{join_by, list_all}
use Rattle.std.specs.Option.{unwrap_or}
use Rattle.std.specs.Str.{bytes_eq, chars}
use Rattle.evl_base.specs.Fields.{kind_named}
use Rattle.evl_base.specs.declared.fields.Kind.{Kind}
use Rattle.evl_base.specs.declared.fields.Kind.TheVariants as kind
use Rattle.strsim.specs.Edits.{levenshtein_row}

-- ---- what is wanted

-- what value of a kind is wanted
abbrev pub wants : Kind → List ℕ
wants kind.Byte = codes "a number from 0 to 255"
wants kind.Half = codes "a number from 0 to 65535"
wants kind.Word = codes "a number from 0 to 4294967295"
wants kind.Number = codes "a number from 0 to 18446744073709551615, above 9223372036854775807 as a string"
wants kind.Stage = codes "\"inband\" or \"oob\""
wants kind.Policy = codes "\"fifo PRIO\", \"rr PRIO SLICE\", \"quota GROUP PRIO\" or \"weak PRIO\""
wants kind.Take = codes "\"any\", \"of MASK\" or \"exact MASK\""
wants kind.Way = codes "\"in\" or \"out\""
wants kind.Bytes = codes "a string of two hexadecimal digits for each of at most 256 bytes"
wants kind.Until = codes "a number from 0 to 18446744073709551615, above 9223372036854775807 as a string, or \"none\""
wants kind.Truth = codes "true or false"

-- what value is wanted at a key of a step
abbrev pub wanted_text : List ℕ → List ℕ
wanted_text key = wants (kind_named key)

-- a value of a kind
abbrev pub fits_kind : Kind → List ℕ
fits_kind kind.Stage = codes "\"oob\""
fits_kind kind.Policy = codes "\"fifo 1\""
fits_kind kind.Take = codes "\"any\""
fits_kind kind.Way = codes "\"in\""
fits_kind kind.Bytes = codes "\"00\""
fits_kind kind.Truth = codes "true"
fits_kind _ = codes "0"

-- a value that can be at a key of a step
abbrev pub sample_text : List ℕ → List ℕ
sample_text key = fits_kind (kind_named key)

-- what value is wanted at a key of a board, or at the limit
unfoldable pub board_wanted_text : List ℕ → List ℕ
board_wanted_text key =
    if bytes_eq key (codes "threads") then codes "a number from 1 to " ++ decimal 256
    else if bytes_eq key (codes "sems") then codes "a list of at most 64 numbers from 0 to 2147483647"
    else if bytes_eq key (codes "flags") then codes "a list of at most 64 numbers from 0 to 4294967295"
    else if bytes_eq key (codes "xbufs") then codes "a list of at most 16 pairs of numbers from 1 to 256"
    else if bytes_eq key (codes "mutexes")
    then codes "a list of at most 32 of \"normal\", \"recursive\" or \"ceiling PRIO\" with PRIO from 1 to 99"
    else if bytes_eq key (codes "groups") then codes "a list of at most 16 numbers from 1 to 100"
    else codes "a number from 1 to 1000000"

unfoldable pub board_keys : List (List ℕ)
board_keys = codes "threads" ∷ codes "sems" ∷ codes "flags" ∷ codes "xbufs" ∷ codes "mutexes" ∷ codes "groups" ∷ []

-- the keys beside the board
unfoldable pub opening_keys : List (List ℕ)
opening_keys = codes "limit" ∷ codes "board" ∷ codes "step" ∷ []

-- the names of keys, with a comma between two of them
abbrev pub names_text : List (List ℕ) → List ℕ
names_text [] = codes "none but do and who"
names_text (key ∷ rest) = join_by (λ key. key) (codes ", ") (key ∷ rest)

-- ---- near words

-- how many edits lead from one text to another
abbrev pub edits : List ℕ → List ℕ → ℕ
edits text word = levenshtein_row nat_eq (chars text) (chars word) (length (chars word))

-- two edits lead to the word at most, and fewer than it has bytes
abbrev pub is_near : List ℕ → List ℕ → Bool
is_near text word = nat_le (edits text word) 2 && nat_lt (edits text word) (length word)

abbrev pub near_words : List ℕ → List (List ℕ) → List (List ℕ)
near_words text words = filter (is_near text) words

-- of these words none is nearer
abbrev pub is_nearest : List ℕ → List (List ℕ) → List ℕ → Bool
is_nearest text words word = list_all (λ other. nat_le (edits text word) (edits text other)) words

-- the first of the nearest words, if one is near
unfoldable pub nearest : List ℕ → List (List ℕ) → Option (List ℕ)
nearest text words = let near = near_words text words in find (is_nearest text near) near

abbrev pub hint_for : Option (List ℕ) → List ℕ
hint_for None = []
hint_for (Some word) = codes "; did you mean \"" ++ (word ++ codes "\"?")

-- what is said of the nearest word, or nothing
abbrev pub hint_text : List ℕ → List (List ℕ) → List ℕ
hint_text text words = hint_for (nearest text words)

-- ---- what a beginner means by a word that no call has

abbrev pub means_claim : List ℕ → Bool
means_claim word = bytes_eq word (codes "lock") || (bytes_eq word (codes "lock_mutex") || bytes_eq word (codes "acquire"))

abbrev pub means_release : List ℕ → Bool
means_release word = bytes_eq word (codes "unlock") || bytes_eq word (codes "unlock_mutex")

abbrev pub means_begin_get : List ℕ → Bool
means_begin_get word = bytes_eq word (codes "wait") || (bytes_eq word (codes "get") || bytes_eq word (codes "down"))

abbrev pub means_put : List ℕ → Bool
means_put word = bytes_eq word (codes "signal") || (bytes_eq word (codes "up") || bytes_eq word (codes "notify"))

abbrev pub means_arrive : List ℕ → Bool
means_arrive word = bytes_eq word (codes "irq") || bytes_eq word (codes "interrupt")

abbrev pub means_tick : List ℕ → Bool
means_tick word = bytes_eq word (codes "sleep") || bytes_eq word (codes "delay")

-- the call that is meant, if one is
abbrev pub meant_text : List ℕ → Option (List ℕ)
meant_text word =
    if means_claim word then Some (codes "; did you mean \"claim\", or \"try_lock_mutex\" of lab callers?")
    else if means_release word then Some (codes "; did you mean \"release\", or \"try_unlock_mutex\" of lab callers?")
    else if means_begin_get word then Some (codes "; did you mean \"begin_get\"?")
    else if means_put word then Some (codes "; did you mean \"put\"?")
    else if means_arrive word then Some (codes "; did you mean \"arrive\"?")
    else if bytes_eq word (codes "lock_stax") then Some (codes "; did you mean \"try_lock_stax\"?")
    else if means_tick word then Some (codes "; did you mean \"tick\", or a timer?")
    else None

-- rule: Near a word is the first known word with the fewest edits (Levenshtein), if at most two and fewer than the
--   word's bytes. For some words (`lock`, `wait`, ..) it is the call that a beginner means.
--   clauses: near; near_text; meant_or_near
-- what is meant, or else the nearest of these words, or nothing
unfoldable pub meant_or_near_text : List ℕ → List (List ℕ) → List ℕ
meant_or_near_text word words = unwrap_or (meant_text word) (hint_text word words)
