-- The rows of keys, one piece on.
use Rattle.std.proofs.Common.{◌≡◌, ◌∙◌, ℕ, ◌+◌, ◌<◌, ◌≤◌, ◌==◌, Bool, true, false, cond, List, ◌∷◌, ◌++◌, drop, get_or, length, sym, ap, append_assoc, add-one, drop-cons, arith}
use Rattle.lab_faults.specs.Keys.{first_kind, is_equals}
use Rattle.lab_faults.specs.declared.tokens.Kind.{Kind}
use Rattle.lab_faults.specs.declared.tokens.Kind.TheVariants.{Word, Brace, EndBrace}
use Rattle.lab_faults.specs.declared.tokens.Token.{Token}
use Rattle.lab_kinds.specs.Banks.{behind_piece, row_told, row_within, rows_from}
use Rattle.lab_kinds.specs.declared.rows.Braces.{Braces}

-- the row of the piece at an index was noted
pub rows_on : (pieces : List Token) (i : ℕ) (blank : Token) → i < length pieces → (s next : Braces) (kind : Kind) (old new whole : List ℕ)
    → kind ≡ first_kind (drop (i + 1) pieces) → new ≡ old ++ row_told s (get_or pieces i blank).kind kind
    → next ≡ behind_piece s (get_or pieces i blank).kind kind → old ++ rows_from s (drop i pieces) ≡ whole
    → new ++ rows_from next (drop (i + 1) pieces) ≡ whole
rows_on pieces i blank here s next kind old new whole kinds noted behind was =
    let cut : drop i pieces ≡ get_or pieces i blank ∷ drop (i + 1) pieces = rw (add-one i) (drop-cons pieces i blank here) in
    rw (noted, behind, kinds)
    (append_assoc old _ _ ∙ ap (λ (ps : List Token). old ++ rows_from s ps) (sym cut) ∙ was)

-- ---- what is counted

depth_word : (b : Bool) (s : Braces) (n : ℕ) → s.depth ≤ n → (cond b (record s { row = row_within s }) s).depth ≤ n + 1
depth_word true s n h = omega (arith, h)
depth_word false s n h = omega (arith, h)

depth_on : (s : Braces) (kind next : Kind) (n : ℕ) → s.depth ≤ n → (behind_piece s kind next).depth ≤ n + 1
depth_on s Brace next n h = omega (arith, h)
depth_on s EndBrace next n h = omega (arith, h)
depth_on s Word next n h = depth_word (is_equals next) s n h
depth_on s _ next n h = omega (arith, h)

row_first : (b : Bool) (row n : ℕ) → row ≤ n → cond b (row + 1) row ≤ n + 1
row_first true row n h = omega (arith, h)
row_first false row n h = omega (arith, h)

row_word : (b outside : Bool) (s : Braces) (n : ℕ) → s.row ≤ n → (cond b (record s { row = cond outside 0 s.row }) s).row ≤ n + 1
row_word true true s n h = omega arith
row_word true false s n h = omega (arith, h)
row_word false outside s n h = omega (arith, h)

row_on : (s : Braces) (kind next : Kind) (n : ℕ) → s.row ≤ n → (behind_piece s kind next).row ≤ n + 1
row_on s Brace next n h = row_first (s.depth == 0) s.row n h
row_on s EndBrace next n h = omega (arith, h)
row_on s Word next n h = row_word (is_equals next) (s.depth == 0) s n h
row_on s _ next n h = omega (arith, h)

-- after a piece both are one more at most
pub counts_on : (s next : Braces) (kind after : Kind) (n : ℕ) → next ≡ behind_piece s kind after → s.depth ≤ n → s.row ≤ n
    → (next.depth ≤ n + 1) × (next.row ≤ n + 1)
counts_on s next kind after n is depth row = rw is (depth_on s kind after n depth, row_on s kind after n row)
