-- The faults of a bank.
use Rattle.std.specs.Prelude.{◌≡◌, ℕ, ◌+◌, ◌-◌, ◌==◌, nat_lt, Bool, false, ◌&&◌, ◌||◌, List, [], ◌∷◌, ◌++◌, codes, decimal, drop, flat_map, length, slice_get, if◌then◌else◌, Option, None, Some, Err, is_ok, true}
use Rattle.std.specs.Option.{option_map_or}
use Rattle.evl_plans.specs.Banks.{bank_of}
use Rattle.evl_plans.specs.declared.faults.BankFault.{BankFault}
use Rattle.evl_plans.specs.declared.faults.BankFault.TheVariants as bank
use Rattle.evl_plans.specs.declared.faults.Part.{Part}
use Rattle.evl_plans.specs.declared.faults.Part.TheVariants.{Keys, Accepts, Rows, Row}
use Rattle.evl_scenario.specs.declared.faults.Fault.TheVariants.{Board}
use Rattle.lab_faults.specs.Checks.{FindsText}
use Rattle.lab_faults.specs.Keys.{first_kind, is_equals, text_headings, text_keys}
use Rattle.lab_faults.specs.Pieces.{pieces}
use Rattle.lab_faults.specs.Steps.{name_between}
use Rattle.lab_faults.specs.Told.{Told, told_at}
use Rattle.lab_faults.specs.declared.items.Heading.{Heading}
use Rattle.lab_faults.specs.declared.items.Item.{Item}
use Rattle.lab_faults.specs.declared.tokens.Kind.{Kind}
use Rattle.lab_faults.specs.declared.tokens.Kind.TheVariants as kind
use Rattle.lab_faults.specs.declared.tokens.Token.{Token}
use Rattle.lab_kinds.specs.Kinds.{is_headed, is_top}
use Rattle.lab_kinds.specs.Tables.{field_faults}
use Rattle.lab_kinds.specs.Words.{callback_keys, row_keys}
use Rattle.lab_kinds.specs.declared.rows.Braces.{Braces}

-- ---- the rows that keys stand in

-- the row of what is within braces; 0 outside them
abbrev pub row_within : Braces → ℕ
row_within s = if s.depth == 0 then 0 else s.row

-- the row after a brace, which begins one outside all others
abbrev pub row_begun : Braces → ℕ
row_begun s = if s.depth == 0 then s.row + 1 else s.row

-- after a word: after a key outside braces no row was begun
abbrev pub behind_word : Braces → Kind → Braces
behind_word s next = if is_equals next then record s { row = row_within s } else s

-- after a piece before one of the next kind
abbrev pub behind_piece : Braces → Kind → Kind → Braces
behind_piece s kind.Brace next = record { depth = s.depth + 1; row = row_begun s }
behind_piece s kind.EndBrace next = record s { depth = s.depth - 1 }
behind_piece s kind.Word next = behind_word s next
behind_piece s _ next = s

-- the row of a word that is a key
abbrev pub word_row : Braces → Kind → List ℕ
word_row s next = if is_equals next then row_within s ∷ [] else []

-- of a piece that is one
abbrev pub row_told : Braces → Kind → Kind → List ℕ
row_told s kind.Word next = word_row s next
row_told s _ next = []

-- the rows of all keys
abbrev pub rows_from : Braces → List Token → List ℕ
rows_from s [] = []
rows_from s (piece ∷ rest) = row_told s piece.kind (first_kind rest) ++ rows_from (behind_piece s piece.kind (first_kind rest)) rest

unfoldable pub rows_of : List ℕ → List ℕ
rows_of text = rows_from (record { depth = 0; row = 0 }) (pieces text)

-- ---- the faults

-- a table that a bank doesn't have
unfoldable pub no_callback_text : List ℕ → List ℕ
no_callback_text name = codes "there is no table \"" ++ (name ++ codes "\" in a bank (tables: [[callback]])")

unfoldable pub row_place : ℕ → List ℕ
row_place row = codes "row " ++ (decimal row ++ codes ": ")

-- the fault of a whole callback or row, or of the document
unfoldable pub bank_fault_text : BankFault → List ℕ
bank_fault_text bank.Text = codes "the text can't be read"
bank_fault_text bank.Memory = codes "no memory"
bank_fault_text bank.Document = codes "tables [[callback]] are wanted, and nothing else"
bank_fault_text (bank.Callback n Keys) = codes "callback " ++ (decimal n ++ codes ": a table with no keys but accepts and do is wanted, at most 64 of them")
bank_fault_text (bank.Callback n Accepts) = codes "callback " ++ (decimal n ++ codes ": accepts can't be read")
bank_fault_text (bank.Callback n Rows) = codes "callback " ++ (decimal n ++ codes ": do: a list of rows in braces is wanted")
bank_fault_text (bank.Callback n (Row row)) =
    if nat_lt 4 row then codes "callback " ++ (decimal n ++ (codes ": row " ++ (decimal row ++ codes ": at most four rows are allowed")))
    else codes "callback " ++ (decimal n ++ (codes ": row " ++ (decimal row ++ codes ": just one of post_sem, post_flags with bits, propagate, post_oob and stop_timer is wanted")))

-- where the callback with this number is headed
abbrev pub callback_place : List Heading → ℕ → ℕ
callback_place headings n = option_map_or (λ heading. heading.name.0) (slice_get headings n) 0

-- where the second of some headings is, or the text ends
abbrev pub second_place : List ℕ → List Heading → ℕ
second_place text (first ∷ (second ∷ rest)) = second.name.0
second_place text _ = length text

-- a key is one of this row, between two bytes
abbrev pub is_of_row : ℕ → ℕ → ℕ → Option ℕ → Item → Bool
is_of_row from end row its item = nat_lt from item.key.0 && (nat_lt item.key.0 end && option_map_or (λ r. r == row) its false)

-- where the first key of the row is there; the first byte, if it has none
abbrev pub row_start : ℕ → ℕ → ℕ → List ℕ → List Item → ℕ
row_start from end row rows [] = from
row_start from end row rows (item ∷ items) =
    if is_of_row from end row (slice_get rows 0) item then item.key.0 else row_start from end row (drop 1 rows) items

-- where a callback or a row as a whole is at fault
abbrev pub fault_place : List ℕ → List Heading → List ℕ → List Item → BankFault → ℕ
fault_place text headings rows items (bank.Callback n (Row row)) = row_start (callback_place headings n) (second_place text (drop n headings)) row rows items
fault_place text headings rows items (bank.Callback n part) = callback_place headings n
fault_place text headings rows items _ = 0

module _ (text : List ℕ) where
  unfoldable pub bank_heading_faults : Heading → List Told
  bank_heading_faults heading =
      if is_headed text (codes "callback") heading then [] else told_at text Board heading.name.0 (no_callback_text (name_between text heading.name)) ∷ []

  abbrev pub row_key_faults : ℕ → Item → List Told
  row_key_faults row item = field_faults text Board (row_place row) row_keys item

  -- of a key in this row, or in none
  unfoldable pub bank_key_faults : ℕ → Item → List Told
  bank_key_faults row item =
      if is_top text (codes "callback") item then []
      else if row == 0 then field_faults text Board (codes "a callback: ") callback_keys item
      else row_key_faults row item

  -- of a key whose row may be known
  abbrev pub known_key_faults : Option ℕ → Item → List Told
  known_key_faults None item = []
  known_key_faults (Some row) item = bank_key_faults row item

  -- of keys, each with its row
  abbrev pub bank_keys_faults : List ℕ → List Item → List Told
  bank_keys_faults rows [] = []
  bank_keys_faults rows (item ∷ items) = known_key_faults (slice_get rows 0) item ++ bank_keys_faults (drop 1 rows) items

  unfoldable pub bank_faults : List Told
  bank_faults = flat_map bank_heading_faults (text_headings text) ++ bank_keys_faults (rows_of text) (text_keys text)

  -- where no key is at fault, the callback or row as a whole is
  abbrev pub whole_faults : BankFault → List Told
  whole_faults fault = told_at text Board (fault_place text (text_headings text) (rows_of text) (text_keys text) fault) (bank_fault_text fault) ∷ []

  abbrev pub or_whole : BankFault → List Told → List Told
  or_whole fault [] = whole_faults fault
  or_whole fault (one ∷ rest) = one ∷ rest

-- by what it is refused for: a text that is no document has its own
abbrev pub BankFinds : List ℕ → BankFault → List Told → Type 0
BankFinds text bank.Text faults = FindsText text faults
BankFinds text fault faults = faults ≡ or_whole text fault (bank_faults text)

-- rule: A bank has a fault exactly if it cannot be read: only that it is no TOML, else those of its headings and keys
--   in order, or else of the first callback or row that cannot be read, at the heading or the row's first key. Braces
--   since the last key outside them count a key's row.
--   also: Banks.{bank_faults, fault_place, rows_of}
--   clauses: check_bank
--   rows: faults_of_a_bank_are_told
-- a bank has none
pub record BankTells (text : List ℕ) (faults : List Told) : Type 0 where
  pub read : is_ok (bank_of text) ≡ true → faults ≡ []
  pub refused : (fault : BankFault) → bank_of text ≡ Err fault → BankFinds text fault faults
