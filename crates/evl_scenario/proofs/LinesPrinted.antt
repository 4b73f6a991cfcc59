-- Keys and headers as they are written are lines of TOML, and the reader has them as its expressions.
use Rattle.std.proofs.Common.{arith, ◌≡◌, ℕ, zero, suc, ◌≤◌, nat_lt, Bool, true, false, ◌&&◌, List, [], ◌∷◌, ◌++◌, length, map, codes, Some, refl, sym, ◌∙◌, append_assoc}
use Rattle.std.specs.Int.{w64}
use Rattle.std.specs.List.{list_all}
use Rattle.std.specs.Prelude.{FitsSigned}
use Rattle.toml_parser.specs.Lexical.{is_bare}
use Rattle.toml_writer.specs.Text.{key_text}
use Rattle.toml.specs.Data.{Data, string, integer, float, boolean, datetime, array, table, Items, no_items, item, depth, items_depth, has_valid_dates, items_have_valid_dates}
use Rattle.toml.specs.Parse.{skip_bom, parse_document}
use Rattle.toml.specs.Tables.{Document, no_nodes, close, Expression, key_value, std_table, array_table}
use Rattle.toml.specs.Text.{IsValueText, IsItemsText, IsLineText, IsLinesText, breaks_lines}
use Rattle.toml.proofs.ReadLines.{run, AllPrinted, read_lines}
use Rattle.toml.proofs.Turns.{document_some}
use Rattle.evl_scenario.specs.Writings.{Pair, value_text, items_text, pairs_text}
use Rattle.evl_scenario.proofs.PlainTexts.{IsPlain, string_text-plain}

-- ---- values

-- a value that is written as it is, with lists at most this deep
abbrev mutual
  pub IsWritten : ℕ → Data → Type 0
  IsWritten n (string s) = IsPlain s
  IsWritten n (integer z) = FitsSigned w64 z
  IsWritten n (boolean b) = Unit {0}
  IsWritten (suc n) (array ds) = AreWritten n ds
  IsWritten zero (array ds) = ⊥
  IsWritten n (float x) = ⊥
  IsWritten n (datetime dt) = ⊥
  IsWritten n (table ms) = ⊥

  pub AreWritten : ℕ → Items → Type 0
  AreWritten n no_items = Unit {0}
  AreWritten n (item d ds) = IsWritten n d × AreWritten n ds

one_line : (ds : Items) → breaks_lines false ds ≡ false
one_line no_items = refl
one_line (item d no_items) = refl
one_line (item d (item e ds)) = refl

mutual
  value_printed : (n : ℕ) (d : Data) → IsWritten n d → IsValueText false d (value_text d)
  value_printed n (string s) h = sym (string_text-plain s h)
  value_printed n (integer z) h = (refl, h)
  value_printed n (boolean true) h = refl
  value_printed n (boolean false) h = refl
  value_printed (suc n) (array ds) h = (items_text true ds, refl, rw (one_line ds) (items_printed n true ds h))
  value_printed zero (array ds) h = absurd h
  value_printed n (float x) h = absurd h
  value_printed n (datetime dt) h = absurd h
  value_printed n (table ms) h = absurd h

  items_printed : (n : ℕ) (is_first : Bool) (ds : Items) → AreWritten n ds → IsItemsText false false is_first ds (items_text is_first ds)
  items_printed n is_first no_items h = refl
  items_printed n is_first (item d ds) h = (value_text d, items_text false ds, refl, value_printed n d h.0, items_printed n false ds h.1)

mutual
  value_depth : (n : ℕ) (d : Data) → IsWritten n d → depth d ≤ n
  value_depth n (string s) h = omega arith
  value_depth n (integer z) h = omega arith
  value_depth n (boolean b) h = omega arith
  value_depth (suc n) (array ds) h = omega (arith, values_depth n ds h)
  value_depth zero (array ds) h = absurd h
  value_depth n (float x) h = absurd h
  value_depth n (datetime dt) h = absurd h
  value_depth n (table ms) h = absurd h

  values_depth : (n : ℕ) (ds : Items) → AreWritten n ds → items_depth ds ≤ n
  values_depth n no_items h = omega arith
  values_depth n (item d ds) h = omega (arith, value_depth n d h.0, values_depth n ds h.1)

mutual
  value_dates : (n : ℕ) (d : Data) → IsWritten n d → has_valid_dates d ≡ true
  value_dates n (string s) h = refl
  value_dates n (integer z) h = refl
  value_dates n (boolean b) h = refl
  value_dates (suc n) (array ds) h = values_dates n ds h
  value_dates zero (array ds) h = absurd h
  value_dates n (float x) h = absurd h
  value_dates n (datetime dt) h = absurd h
  value_dates n (table ms) h = absurd h

  values_dates : (n : ℕ) (ds : Items) → AreWritten n ds → items_have_valid_dates ds ≡ true
  values_dates n no_items h = refl
  values_dates n (item d ds) h = rw (value_dates n d h.0, values_dates n ds h.1) refl

-- ---- keys

abbrev pub IsBare : List ℕ → Type 0
IsBare k = (nat_lt 0 (length k) && list_all is_bare k) ≡ true

key-bare : (k : List ℕ) → IsBare k → key_text k ≡ k
unfolding key_text
key-bare k h = rw h refl

-- ---- lines

abbrev pub pair_expression : Pair → Expression
pair_expression p = (([], p.0), key_value p.1)

abbrev pub IsPair : Pair → Type 0
IsPair p = IsBare p.0 × IsWritten 2 p.1

abbrev pub ArePairs : List Pair → Type 0
ArePairs [] = Unit {0}
ArePairs (p ∷ ps) = IsPair p × ArePairs ps

-- the line of a key
pub pair_line : (started : Bool) (p : Pair) → IsPair p → IsLineText false started ([], p.0) (key_value p.1) (p.0 ++ (codes " = " ++ (value_text p.1 ++ codes "\n")))
pair_line started p h = (value_text p.1, rw (key-bare p.0 h.0) refl, value_printed 2 p.1 h.1)

-- the lines of keys, before other lines
pub pairs_lines : (started : Bool) (ps : List Pair) (es : List Expression) (text : List ℕ) → ArePairs ps → IsLinesText false true es text
    → IsLinesText false true (map pair_expression ps ++ es) (pairs_text ps ++ text)
pairs_lines started [] es text h more = more
pairs_lines started (p ∷ ps) es text h more =
    let line = p.0 ++ (codes " = " ++ (value_text p.1 ++ codes "\n")) in
    let whole : pairs_text (p ∷ ps) ++ text ≡ line ++ (pairs_text ps ++ text) = simp append_assoc refl in
    (line, pairs_text ps ++ text, whole, pair_line true p h.0, pairs_lines true ps es text h.1 more)

-- the line of a header
pub header_line : (k : List ℕ) → IsBare k → IsLineText false true ([], k) std_table (codes "\n[" ++ (k ++ codes "]\n"))
header_line k h = rw (key-bare k h) refl

pub element_line : (k : List ℕ) → IsBare k → IsLineText false true ([], k) array_table (codes "\n[[" ++ (k ++ codes "]]\n"))
element_line k h = rw (key-bare k h) refl

-- ---- what the reader asks of the expressions

pub pair_printed : (p : Pair) → IsPair p → AllPrinted (pair_expression p ∷ [])
pair_printed p h = ((refl, omega (arith, value_depth 2 p.1 h.1), value_dates 2 p.1 h.1), tt)

pub printed-append : (es fs : List Expression) → AllPrinted es → AllPrinted fs → AllPrinted (es ++ fs)
printed-append [] fs a b = b
printed-append (e ∷ es) fs a b = (a.0, printed-append es fs a.1 b)

pub pairs_printed : (ps : List Pair) → ArePairs ps → AllPrinted (map pair_expression ps)
pairs_printed [] h = tt
pairs_printed (p ∷ ps) h = ((pair_printed p h.0).0, pairs_printed ps h.1)

-- a text of such lines is the document that its expressions make
pub lines_read : (text : List ℕ) (es : List Expression) (doc : Document) → IsLinesText false false es text → AllPrinted es
    → skip_bom text ≡ text → run (no_nodes, []) es ≡ Some doc → parse_document text ≡ Some (close doc.0)
lines_read text es doc h printed bom ran =
    document_some text doc (rw bom (read_lines false false es text text (no_nodes, []) (suc (length text)) h printed refl (omega arith) ∙ ran))
