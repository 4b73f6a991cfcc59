-- The headings and the keys of a text, each key with its value, as the pieces of the text give them.
use Rattle.std.specs.Prelude.{ℕ, ◌≤◌, ◌+◌, ◌-◌, ◌==◌, nat_lt, Bool, true, false, not, ◌&&◌, List, [], ◌∷◌, codes, if◌then◌else◌, Option, None, Some}
use Rattle.std.specs.Str.{bytes_eq}
use Rattle.lab_faults.specs.Pieces.{pieces}
use Rattle.lab_faults.specs.Steps.{bytes_between, unquoted}
use Rattle.lab_faults.specs.declared.items.Entry.{Entry}
use Rattle.lab_faults.specs.declared.items.Entry.TheVariants.{Heads, Key, Goes, Nothing}
use Rattle.lab_faults.specs.declared.items.Heading.{Heading}
use Rattle.lab_faults.specs.declared.items.Item.{Item}
use Rattle.lab_faults.specs.declared.items.Section.{Section}
use Rattle.lab_faults.specs.declared.items.Section.TheVariants.{Opening, Board, Step, Other}
use Rattle.lab_faults.specs.declared.standings.Standing.{Standing}
use Rattle.lab_faults.specs.declared.tokens.Kind.{Kind}
use Rattle.lab_faults.specs.declared.tokens.Kind.TheVariants.{Word, Equals, Bracket, EndBracket, Brace, EndBrace, EndLine}
use Rattle.lab_faults.specs.declared.tokens.Token.{Token}

-- ---- sections

-- the name at a place
abbrev pub bare_between : List ℕ → ℕ × ℕ → List ℕ
bare_between text range = unquoted (bytes_between text range)

-- what a heading of a name begins, by its brackets and how many steps were begun before
abbrev pub headed : List ℕ → ℕ → ℕ → Section
headed name brackets steps =
    if bytes_eq name (codes "step") && brackets == 2 then Step (steps + 1)
    else if bytes_eq name (codes "board") && brackets == 1 then Board
    else Other

-- what braces begin that are a value of a key, beside the board and the steps
abbrev pub braced : List ℕ → ℕ → Section
braced key steps =
    if bytes_eq key (codes "board") then Board
    else if bytes_eq key (codes "step") then Step (steps + 1)
    else Other

-- how many steps were begun
abbrev pub begun_steps : ℕ → Section → ℕ
begun_steps steps (Step number) = number
begun_steps steps _ = steps

-- ---- where the next piece is

abbrev pub is_equals : Kind → Bool
is_equals Equals = true
is_equals _ = false

-- a bracket begins a heading outside values and brackets
abbrev pub begins_heading : Standing → Bool
begins_heading s = not s.is_value && s.depth == 0

abbrev pub behind_key : Standing → ℕ × ℕ → Standing
behind_key s key = record s { top = (if s.depth == 0 then key else s.top); key_depth = s.depth; is_value = true }

abbrev pub bracket_opened : Standing → Standing
bracket_opened s = record s { depth = s.depth + 1 }

-- what closes brackets that were open at the last key ends its value
abbrev pub bracket_closed : Standing → Standing
bracket_closed s = record s { depth = s.depth - 1; is_value = s.is_value && nat_lt s.key_depth s.depth }

abbrev pub behind_line : Standing → Standing
behind_line s = record s { is_value = s.is_value && not (s.depth == 0) }

module _ (text : List ℕ) where
  -- in a heading
  abbrev pub behind_head : Standing → ℕ → ℕ × ℕ → Kind → Standing
  behind_head s brackets range Bracket = record s { heading = Some (brackets + 1) }
  behind_head s brackets range EndLine = record s { heading = None }
  behind_head s brackets range Word =
      let section = headed (bare_between text range) brackets s.steps in record s { section = section; steps = begun_steps s.steps section }
  behind_head s brackets range _ = s

  -- in braces: their keys are of the step that is headed, if there is one; no key of the board has keys of its own
  abbrev pub in_braces : Standing → Section → Standing
  in_braces s Opening =
      let section = braced (bare_between text s.top) s.steps in record s { within = section; steps = begun_steps s.steps section }
  in_braces s Board = record s { within = Other }
  in_braces s section = record s { within = section }

  -- outside headings
  abbrev pub behind_other : Standing → ℕ × ℕ → Kind → Kind → Standing
  behind_other s range next Word = if is_equals next then behind_key s range else s
  behind_other s range next Bracket = if begins_heading s then record s { heading = Some 1 } else bracket_opened s
  behind_other s range next Brace = in_braces (bracket_opened s) s.section
  behind_other s range next EndBracket = bracket_closed s
  behind_other s range next EndBrace = bracket_closed s
  behind_other s range next EndLine = behind_line s
  behind_other s range next _ = s

  abbrev pub behind_in : Standing → Token → Kind → Option ℕ → Standing
  behind_in s piece next (Some brackets) = behind_head s brackets (piece.from, piece.to) piece.kind
  behind_in s piece next None = behind_other s (piece.from, piece.to) next piece.kind

  -- after a piece before one of the next kind
  unfoldable pub behind : Standing → Token → Kind → Standing
  behind s piece next = behind_in s piece next s.heading

-- ---- what a piece says

abbrev pub key_section : Standing → Section
key_section s = if s.depth == 0 then s.section else s.within

abbrev pub goes_if : Bool → ℕ × ℕ → Entry
goes_if is_value range = if is_value then Goes range else Nothing

-- outside headings: a word before an equals sign is a key, all other words and the brackets in a value are of the last key's value
abbrev pub other_entry : Standing → ℕ × ℕ → Kind → Kind → Entry
other_entry s range next Word =
    if is_equals next then Key (record { section = key_section s; key = range; value = (range.1, range.1) }) else Goes range
other_entry s range next Bracket = goes_if s.is_value range
other_entry s range next Brace = goes_if s.is_value range
other_entry s range next EndBracket = goes_if (nat_lt s.key_depth s.depth) range
other_entry s range next EndBrace = goes_if (nat_lt s.key_depth s.depth) range
other_entry s range next _ = Nothing

module _ (text : List ℕ) where
  abbrev pub head_entry : Standing → ℕ → ℕ × ℕ → Kind → Entry
  head_entry s brackets range Word = Heads (record { section = headed (bare_between text range) brackets s.steps; name = range })
  head_entry s brackets range _ = Nothing

  abbrev pub entry_in : Standing → Token → Kind → Option ℕ → Entry
  entry_in s piece next (Some brackets) = head_entry s brackets (piece.from, piece.to) piece.kind
  entry_in s piece next None = other_entry s (piece.from, piece.to) next piece.kind

  -- a piece before one of the next kind
  unfoldable pub entry : Standing → Token → Kind → Entry
  entry s piece next = entry_in s piece next s.heading

-- ---- what all pieces say

abbrev pub first_kind : List Token → Kind
first_kind [] = EndLine
first_kind (piece ∷ rest) = piece.kind

abbrev pub entries : List ℕ → Standing → List Token → List Entry
entries text s [] = []
entries text s (piece ∷ rest) = entry text s piece (first_kind rest) ∷ entries text (behind text s piece (first_kind rest)) rest

abbrev pub headings_in : List Entry → List Heading
headings_in [] = []
headings_in (Heads heading ∷ rest) = heading ∷ headings_in rest
headings_in (_ ∷ rest) = headings_in rest

-- a value with one more of its pieces: it goes from the first one to the end of the last
abbrev pub up_to : ℕ × ℕ → ℕ × ℕ → ℕ × ℕ
up_to value piece = if value.0 == value.1 then piece else (value.0, piece.1)

-- a value after which these entries come, up to the next key
abbrev pub value_before : ℕ × ℕ → List Entry → ℕ × ℕ
value_before value [] = value
value_before value (Goes piece ∷ rest) = value_before (up_to value piece) rest
value_before value (Key item ∷ rest) = value
value_before value (_ ∷ rest) = value_before value rest

abbrev pub keys_in : List Entry → List Item
keys_in [] = []
keys_in (Key item ∷ rest) = record item { value = value_before item.value rest } ∷ keys_in rest
keys_in (_ ∷ rest) = keys_in rest

-- ---- of a text

-- rule: A line of a board and limit, of a step with any call and answer, or of a play is read as what it says; what a
--   text is read as has exactly that text. Call and answer stay texts.
--   clauses: read_line: back, called, fire, whole
--   rows: each_form_is_read
abbrev pub opening : Standing
opening =
    record {
      section = Opening;
      within = Opening;
      steps = 0;
      depth = 0;
      heading = None;
      top = (0, 0);
      key_depth = 0;
      is_value = false;
    }

abbrev pub text_entries : List ℕ → List Entry
text_entries text = entries text opening (pieces text)

-- the headings of a text
unfoldable pub text_headings : List ℕ → List Heading
text_headings text = headings_in (text_entries text)

-- the keys of a text, with their values
unfoldable pub text_keys : List ℕ → List Item
text_keys text = keys_in (text_entries text)

-- ---- a part of a text

-- the keys that are to come after one whose value may go on
abbrev pub keys_to_come : Option Item → List Entry → List Item
keys_to_come None rest = keys_in rest
keys_to_come (Some item) rest = record item { value = value_before item.value rest } ∷ keys_in rest

abbrev pub brackets_of : Option ℕ → ℕ
brackets_of None = 0
brackets_of (Some brackets) = brackets

-- nothing was counted further
pub record CountsUpTo (s : Standing) (most : ℕ) : Type 0 where
  pub steps : s.steps ≤ most
  pub depth : s.depth ≤ most
  pub brackets : brackets_of s.heading ≤ most
