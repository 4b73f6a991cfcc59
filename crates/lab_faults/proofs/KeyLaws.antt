-- All that one more piece says, and how far it may count.
use Rattle.std.proofs.Common.{◌≡◌, ◌∙◌, ℕ, ◌+◌, ◌<◌, ◌≤◌, Bool, true, false, cond, List, ◌∷◌, ◌++◌, Option, Some, None, drop, get_or, length, sym, ap, add-one, drop-cons, arith}
use Rattle.lab_faults.specs.Keys.{CountsUpTo, bare_between, begins_heading, begun_steps, behind, behind_head, behind_in, behind_key, behind_other, braced, brackets_of, bracket_closed, entries, entry, first_kind, headed, headings_in, in_braces, is_equals, keys_to_come, bracket_opened}
use Rattle.lab_faults.specs.declared.items.Entry.{Entry}
use Rattle.lab_faults.specs.declared.items.Heading.{Heading}
use Rattle.lab_faults.specs.declared.items.Item.{Item}
use Rattle.lab_faults.specs.declared.items.Section.{Section}
use Rattle.lab_faults.specs.declared.items.Section.TheVariants.{Opening, Board, Step, Other}
use Rattle.lab_faults.specs.declared.standings.Standing.{Standing}
use Rattle.lab_faults.specs.declared.tokens.Kind.{Kind}
use Rattle.lab_faults.specs.declared.tokens.Kind.TheVariants.{Word, Bracket, EndBracket, Brace, EndBrace, EndLine}
use Rattle.lab_faults.specs.declared.tokens.Token.{Token}

-- ---- what is said

one_told : (text : List ℕ) (s next : Standing) (piece : Token) (rest : List Token) (told : Entry) (kind : Kind) → kind ≡ first_kind rest
    → told ≡ entry text s piece kind → next ≡ behind text s piece kind → entries text s (piece ∷ rest) ≡ told ∷ entries text next rest
one_told text s next piece rest told kind e f g = rw (f, g, e)

-- at a place in all pieces
pub told_at_place : (text : List ℕ) (pieces : List Token) (i : ℕ) (blank : Token) → i < length pieces → (s next : Standing) (told : Entry) (kind : Kind)
    → kind ≡ first_kind (drop (i + 1) pieces) → told ≡ entry text s (get_or pieces i blank) kind → next ≡ behind text s (get_or pieces i blank) kind
    → entries text s (drop i pieces) ≡ told ∷ entries text next (drop (i + 1) pieces)
told_at_place text pieces i blank here s next told kind e f g =
    let cut : drop i pieces ≡ get_or pieces i blank ∷ drop (i + 1) pieces = rw (add-one i) (drop-cons pieces i blank here) in
    ap (entries text s) cut ∙ one_told text s next (get_or pieces i blank) (drop (i + 1) pieces) told kind e f g

module _ (told : Entry) (left rest : List Entry) (cut : left ≡ told ∷ rest) where
  pub headings_on : (old new whole : List Heading) → ((rest : List Entry) → old ++ headings_in (told ∷ rest) ≡ new ++ headings_in rest)
      → old ++ headings_in left ≡ whole → new ++ headings_in rest ≡ whole
  headings_on old new whole noted was = sym (noted rest) ∙ ap (λ (es : List Entry). old ++ headings_in es) (sym cut) ∙ was

  pub keys_on : (old new whole : List Item) (last then : Option Item)
      → ((rest : List Entry) → old ++ keys_to_come last (told ∷ rest) ≡ new ++ keys_to_come then rest)
      → old ++ keys_to_come last left ≡ whole → new ++ keys_to_come then rest ≡ whole
  keys_on old new whole last then noted was = sym (noted rest) ∙ ap (λ (es : List Entry). old ++ keys_to_come last es) (sym cut) ∙ was

-- ---- what is counted

step_or : (b other : Bool) (steps : ℕ) → begun_steps steps (cond b (Step (steps + 1)) (cond other Board Other)) ≤ steps + 1
step_or true other steps = omega arith
step_or false true steps = omega arith
step_or false false steps = omega arith

board_or : (b other : Bool) (steps : ℕ) → begun_steps steps (cond b Board (cond other (Step (steps + 1)) Other)) ≤ steps + 1
board_or true other steps = omega arith
board_or false true steps = omega arith
board_or false false steps = omega arith

headed_steps : (name : List ℕ) (brackets steps : ℕ) → begun_steps steps (headed name brackets steps) ≤ steps + 1
headed_steps name brackets steps = step_or _ _ steps

braced_steps : (key : List ℕ) (steps : ℕ) → begun_steps steps (braced key steps) ≤ steps + 1
braced_steps key steps = board_or _ _ steps

either : (b : Bool) (x y : Standing) (n : ℕ) → CountsUpTo x n → CountsUpTo y n → CountsUpTo (cond b x y) n
either true x y n h k = h
either false x y n h k = k

one_more : (s : Standing) (n : ℕ) → CountsUpTo s n → CountsUpTo s (n + 1)
one_more s n h = record { steps = omega (arith, h.steps); depth = omega (arith, h.depth); brackets = omega (arith, h.brackets) }

module _ (text : List ℕ) (s : Standing) (n : ℕ) (h : CountsUpTo s n) where
  head_counts : (brackets : ℕ) (range : ℕ × ℕ) (kind : Kind) → brackets ≤ n → CountsUpTo (behind_head text s brackets range kind) (n + 1)
  head_counts brackets range Bracket k = record { steps = omega (arith, h.steps); depth = omega (arith, h.depth); brackets = omega arith }
  head_counts brackets range EndLine k = record { steps = omega (arith, h.steps); depth = omega (arith, h.depth); brackets = omega arith }
  head_counts brackets range Word k =
      let more = headed_steps (bare_between text range) brackets s.steps in record { steps = omega (arith, h.steps, more); depth = omega (arith, h.depth); brackets = omega (arith, h.brackets) }
  head_counts brackets range _ k = one_more s n h

  brace_counts : (section : Section) → CountsUpTo (in_braces text (bracket_opened s) section) (n + 1)
  brace_counts Opening =
      let more = braced_steps (bare_between text s.top) s.steps in record { steps = omega (arith, h.steps, more); depth = omega (arith, h.depth); brackets = omega (arith, h.brackets) }
  brace_counts _ = record { steps = omega (arith, h.steps); depth = omega (arith, h.depth); brackets = omega (arith, h.brackets) }

  open_counts : CountsUpTo (bracket_opened s) (n + 1)
  open_counts = record { steps = omega (arith, h.steps); depth = omega (arith, h.depth); brackets = omega (arith, h.brackets) }

  head_begins : CountsUpTo (record s { heading = Some 1 }) (n + 1)
  head_begins = record { steps = omega (arith, h.steps); depth = omega (arith, h.depth); brackets = omega arith }

  close_counts : CountsUpTo (bracket_closed s) (n + 1)
  close_counts = record { steps = omega (arith, h.steps); depth = omega (arith, h.depth); brackets = omega (arith, h.brackets) }

  other_counts : (range : ℕ × ℕ) (next kind : Kind) → CountsUpTo (behind_other text s range next kind) (n + 1)
  other_counts range next Word = either (is_equals next) (behind_key s range) s (n + 1) (let more = one_more s n h in record { steps = more.steps; depth = more.depth; brackets = more.brackets }) (one_more s n h)
  other_counts range next Bracket = either (begins_heading s) _ (bracket_opened s) (n + 1) head_begins open_counts
  other_counts range next Brace = brace_counts s.section
  other_counts range next EndBracket = close_counts
  other_counts range next EndBrace = close_counts
  other_counts range next EndLine = let more = one_more s n h in record { steps = more.steps; depth = more.depth; brackets = more.brackets }
  other_counts range next _ = one_more s n h

counts_by : (text : List ℕ) (s : Standing) (n : ℕ) (piece : Token) (next : Kind) (heading : Option ℕ) → CountsUpTo s n → brackets_of heading ≤ n
    → CountsUpTo (behind_in text s piece next heading) (n + 1)
counts_by text s n piece next None h k = other_counts text s n h (piece.from, piece.to) next piece.kind
counts_by text s n piece next (Some brackets) h k = head_counts text s n h brackets (piece.from, piece.to) piece.kind k

pub counts_on : (text : List ℕ) (s : Standing) (n : ℕ) (piece : Token) (next : Kind) → CountsUpTo s n → CountsUpTo (behind text s piece next) (n + 1)
unfolding behind
counts_on text s n piece next h = counts_by text s n piece next s.heading h h.brackets
