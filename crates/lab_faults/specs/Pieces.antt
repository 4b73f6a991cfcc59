-- The pieces of a text: words, texts in quotes, marks, and the ends of lines. Blanks and comments are none.
use Rattle.std.specs.Prelude.{ℕ, zero, suc, ◌+◌, ◌==◌, Bool, false, not, ◌&&◌, ◌||◌, List, [], ◌∷◌, ◌++◌, if◌then◌else◌, option_map, Option, None, Some, is_some}
use Rattle.std.specs.List.{prefix_len}
use Rattle.lab_faults.specs.declared.tokens.Kind.{Kind}
use Rattle.lab_faults.specs.declared.tokens.Kind.TheVariants.{Word, Equals, Comma, Bracket, EndBracket, Brace, EndBrace, EndLine}
use Rattle.lab_faults.specs.declared.tokens.Reading.{Reading}
use Rattle.lab_faults.specs.declared.tokens.Reading.TheVariants.{Plain, Quoted, Comment}
use Rattle.lab_faults.specs.declared.tokens.Token.{Token}

-- ---- bytes

-- what a byte by itself is: one of = , [ ] { } and the line feed
abbrev pub mark : ℕ → Option Kind
mark byte =
    if byte == 61 then Some Equals
    else if byte == 44 then Some Comma
    else if byte == 91 then Some Bracket
    else if byte == 93 then Some EndBracket
    else if byte == 123 then Some Brace
    else if byte == 125 then Some EndBrace
    else if byte == 10 then Some EndLine
    else None

-- a double or a single quote
abbrev pub is_quote : ℕ → Bool
is_quote byte = byte == 34 || byte == 39

-- a space, a tab or a carriage return
abbrev pub is_blank : ℕ → Bool
is_blank byte = byte == 32 || (byte == 9 || byte == 13)

-- a byte of a word; a number sign begins a comment
abbrev pub is_plain : ℕ → Bool
is_plain byte = not (is_some (mark byte) || (is_quote byte || (byte == 35 || is_blank byte)))

-- a byte of a comment
abbrev pub is_in_line : ℕ → Bool
is_in_line byte = not (byte == 10)

-- the quote that closes a text, unless it is escaped
abbrev pub closes : ℕ → Bool → ℕ → Bool
closes quote escaped byte = not escaped && byte == quote

-- a backslash between double quotes, unless it is escaped itself
abbrev pub escapes : ℕ → Bool → ℕ → Bool
escapes quote escaped byte = not escaped && (quote == 34 && byte == 92)

-- ---- pieces

abbrev pub word : ℕ → ℕ → Token
word from to = record { kind = Word; from = from; to = to }

-- a word from a byte on, as far as plain bytes follow, and what comes after so many bytes
abbrev pub word_from : ℕ → ℕ → ℕ → (ℕ → List Token) → List Token
word_from from at more behind = word from (at + more) ∷ behind more

-- how many bytes lead up to the quote that closes a text, with it
abbrev pub closing : ℕ → Bool → List ℕ → Option ℕ
closing quote escaped [] = None
closing quote escaped (byte ∷ rest) =
    if closes quote escaped byte then Some 1 else option_map suc (closing quote (escapes quote escaped byte) rest)

-- a text from its first quote on, and what comes after it; nothing where no quote closes it
abbrev pub quoted_from : ℕ → ℕ → Option ℕ → (ℕ → List Token) → List Token
quoted_from from at (Some more) behind = word_from from at more behind
quoted_from from at None behind = []

abbrev pub token_marked : ℕ → Option Kind → List Token
token_marked at (Some kind) = record { kind = kind; from = at; to = at + 1 } ∷ []
token_marked at None = []

-- the pieces of what is at a place, after so many bytes, which are of a piece that began before
unfoldable pub pieces_from : ℕ → ℕ → List ℕ → List Token
pieces_from at passed [] = []
pieces_from at (suc passed) (byte ∷ rest) = pieces_from (at + 1) passed rest
pieces_from at zero (byte ∷ rest) =
    if is_plain byte then word_from at (at + 1) (prefix_len is_plain rest) (λ passed. pieces_from (at + 1) passed rest)
    else if is_quote byte then quoted_from at (at + 1) (closing byte false rest) (λ passed. pieces_from (at + 1) passed rest)
    else if byte == 35 then pieces_from (at + 1) (prefix_len is_in_line rest) rest
    else token_marked at (mark byte) ++ pieces_from (at + 1) 0 rest

abbrev pub pieces : List ℕ → List Token
pieces text = pieces_from 0 0 text

-- ---- a part of a text

-- a word that may have begun, where it ends
abbrev pub token_ended : Option ℕ → ℕ → List Token
token_ended None to = []
token_ended (Some from) to = word from to ∷ []

-- a word that may have begun, and what comes after it
abbrev pub begun_word : Option ℕ → ℕ → List ℕ → List Token
begun_word None at rest = pieces_from at 0 rest
begun_word (Some from) at rest = word_from from at (prefix_len is_plain rest) (λ passed. pieces_from at passed rest)

-- the pieces that are still to come at a place, where one of them may have begun
abbrev pub to_come : Reading → ℕ → List ℕ → List Token
to_come (Plain begun) at rest = begun_word begun at rest
to_come (Quoted from quote escaped) at rest = quoted_from from at (closing quote escaped rest) (λ passed. pieces_from at passed rest)
to_come Comment at rest = pieces_from at (prefix_len is_in_line rest) rest
