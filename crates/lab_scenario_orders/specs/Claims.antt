-- Facts with `and` between them.
use Rattle.std.specs.Prelude.{ℕ, ◌≡◌, ◌++◌, ◌==◌, Bool, true, ◌&&◌, not, nat_le, All, List, [], ◌∷◌, codes, find, is_none, map, Option, Some, None}
use Rattle.std.specs.List.{list_any, slice_split}
use Rattle.std.specs.Str.{bytes_eq}
use Rattle.std.specs.Str.Iter.{HasSubslice}
use Rattle.evl_base.specs.declared.board.Board.{Board}
use Rattle.lab_scenario_orders.specs.Answers.{edits}
use Rattle.lab_scenario_orders.specs.FactTexts.{claim_in}
use Rattle.lab_scenario_orders.specs.Facts.{lacked}
use Rattle.lab_scenario_orders.specs.declared.facts.Claim.{Claim}
use Rattle.lab_scenario_orders.specs.declared.facts.Part.{Part}

-- texts with `and` between them
abbrev pub joined : List (List ℕ) → List ℕ
joined [] = []
joined (text ∷ []) = text
joined (text ∷ (next ∷ rest)) = text ++ (codes " and " ++ joined (next ∷ rest))

-- rule: A question is read as it is written: facts with ` and ` between them, each with `not ` before it or not; it
--   names nothing that the board lacks. A fault has the line of the key that it names.
--   also: FactTexts.fact_in; Facts.lacked
--   clauses: read_ask: watches, placed
--   rows: what_cant_be_asked_is_refused
-- a text claims this: facts with `and` between them
pub record Claims (text : List ℕ) (claims : List Claim) : Type 0 where
  pub texts : List (List ℕ)
  pub written : text ≡ joined texts
  pub each : map claim_in texts ≡ map (λ claim. Some claim) claims

-- no `and` is in a text
abbrev pub IsSingle : List ℕ → Type 0
IsSingle text = HasSubslice text (codes " and ") → ⊥

-- one of these texts isn't a fact
abbrev pub has_strange : List (List ℕ) → Bool
has_strange texts = list_any (λ text. is_none (claim_in text)) texts

-- a text isn't facts: parted at its `and`s, one of its texts is none
pub record IsUnread (text : List ℕ) : Type 0 where
  pub texts : List (List ℕ)
  pub written : text ≡ joined texts
  pub parted : All IsSingle texts
  pub strange : has_strange texts ≡ true

-- the first of what claims name that a board lacks
abbrev pub first_lacked_of : Option Part → Option Part → Option Part
first_lacked_of (Some part) rest = Some part
first_lacked_of None rest = rest

abbrev pub first_lacked : Board → List Claim → Option Part
first_lacked board [] = None
first_lacked board (claim ∷ claims) = first_lacked_of (lacked board claim.fact) (first_lacked board claims)

-- ---- what may be meant

abbrev pub words_of : List ℕ → List (List ℕ)
words_of text = slice_split (λ byte. byte == 32) text

abbrev pub fact_words : List (List ℕ)
fact_words =
    codes "picked" ∷ codes "ready" ∷ codes "waits" ∷ codes "rank" ∷ codes "mutex" ∷ codes "owner" ∷ codes "held" ∷ codes "sem"
    ∷ codes "count" ∷ codes "flags" ∷ codes "bits" ∷ codes "line" ∷ codes "pending" ∷ codes "stalled" ∷ codes "nobody"
    ∷ codes "inband" ∷ codes "oob" ∷ codes "for" ∷ codes "write" ∷ codes "read" ∷ codes "xbuf" ∷ codes "way" ∷ codes "not"
    ∷ codes "and" ∷ []

-- a word of facts may be meant by another one, which is none: it is at most two edits away
abbrev pub is_mistaken : List ℕ → List ℕ → Bool
is_mistaken known word = not (list_any (bytes_eq word) fact_words) && nat_le (edits word known) 2

abbrev pub is_word_for : List (List ℕ) → List ℕ → Bool
is_word_for words known = list_any (is_mistaken known) words

abbrev pub near_word : List ℕ → Option (List ℕ)
near_word text = find (is_word_for (words_of text)) fact_words
