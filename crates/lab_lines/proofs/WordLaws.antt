-- The words of a line, byte by byte.
use Rattle.std.proofs.Common.{◌≡◌, ◌∙◌, ◌+◌, ◌<◌, ◌==◌, ◌++◌, ◌∷◌, ℕ, suc, Bool, true, false, cond, nat_lt, List, [], filter, length, get_or, drop, Option, Some, None, append_assoc, refl, sym, ap, arith}
use Rattle.std.specs.List.{onto_first, slice_split}
use Rattle.std.proofs.lemmas.Bool.{lt-ltb, ltb-true}
use Rattle.std.proofs.lemmas.List.{drop_all, drop_more}
use Rattle.std.proofs.lemmas.List.Splits.{length-slice_split}
use Rattle.lab_lines.specs.Lines.{begun_then, ended_word, has_bytes, left_pieces, left_words, pieces_from, words_of}
use Rattle.lab_lines.specs.declared.places.Part.{Part}

-- a part from a byte up to another
abbrev part : ℕ → ℕ → Part
part from to = record { from = from; to = to }

not_true : (b : Bool) → (b ≡ true → ⊥) → b ≡ false
not_true true h = absurd (h refl)
not_true false h = refl

empty : (at : ℕ) → nat_lt at (at + 0) ≡ false
empty at = not_true (nat_lt at (at + 0)) (λ yes. omega (arith, ltb-true at (at + 0) yes))

some : (at more : ℕ) → nat_lt at (at + suc more) ≡ true
some at more = lt-ltb at (at + suc more) (omega arith)

-- what a byte makes of the words that are left, by the pieces after it
step_pieces : (begun : Option ℕ) (at c : ℕ) (space : Bool) (first : List ℕ) (more : List (List ℕ))
    → ended_word begun at space ++ left_pieces (begun_then begun at space) (at + 1) (first ∷ more)
    ≡ left_pieces begun at (cond space ([] ∷ first ∷ more) (onto_first c (first ∷ more)))
step_pieces None at c true first more =
    let zero : at + 0 + 1 ≡ at + 1 = omega arith in
    ap (λ (n : ℕ). filter has_bytes (pieces_from n (first ∷ more))) (sym zero)
    ∙ ap (λ (b : Bool). cond b (part at (at + 0) ∷ filter has_bytes (pieces_from (at + 0 + 1) (first ∷ more))) (filter has_bytes (pieces_from (at + 0 + 1) (first ∷ more)))) (sym (empty at))
step_pieces None at c false first more =
    let end : (at + 1) + length first ≡ at + suc (length first) = omega arith in
    ap (λ (n : ℕ). part at n ∷ filter has_bytes (pieces_from (n + 1) more)) end
    ∙ ap (λ (b : Bool). cond b (part at (at + suc (length first)) ∷ filter has_bytes (pieces_from (at + suc (length first) + 1) more)) (filter has_bytes (pieces_from (at + suc (length first) + 1) more))) (sym (some at (length first)))
step_pieces (Some from) at c true first more =
    let zero : at ≡ at + 0 = omega arith in
    ap (λ (n : ℕ). part from n ∷ filter has_bytes (pieces_from (n + 1) (first ∷ more))) zero
step_pieces (Some from) at c false first more =
    let end : (at + 1) + length first ≡ at + suc (length first) = omega arith in
    ap (λ (n : ℕ). part from n ∷ filter has_bytes (pieces_from (n + 1) more)) end

-- a list is cut into one piece at least
cut_some : (rest : List ℕ) → slice_split (λ c. c == 32) rest ≡ [] → ⊥
cut_some rest none = let some = length-slice_split (λ c. c == 32) rest in omega (arith, some, ap (λ (ps : List (List ℕ)). length ps) none)

step_cut : (c : ℕ) (begun : Option ℕ) (at : ℕ) (space : Bool) (rest : List ℕ) (pieces : List (List ℕ)) → slice_split (λ c. c == 32) rest ≡ pieces
    → ended_word begun at space ++ left_pieces (begun_then begun at space) (at + 1) pieces ≡ left_pieces begun at (cond space ([] ∷ pieces) (onto_first c pieces))
step_cut c begun at space rest [] none = absurd (cut_some rest none)
step_cut c begun at space rest (first ∷ more) is = step_pieces begun at c space first more

-- what one byte more makes of the words that are left
pub words_on : (line : List ℕ) (at : ℕ) (begun now : Option ℕ) (old new : List Part) → at < length line
    → old ++ left_words begun at (drop at line) ≡ words_of line → new ≡ old ++ ended_word begun at (get_or line at 0 == 32)
    → now ≡ begun_then begun at (get_or line at 0 == 32) → new ++ left_words now (at + 1) (drop (at + 1) line) ≡ words_of line
words_on line at begun now old new less before more goes =
    let rest = drop (at + 1) line in
    let c = get_or line at 0 in
    let ended = ended_word begun at (c == 32) in
    let left = left_words (begun_then begun at (c == 32)) (at + 1) rest in
    (λ i. more i ++ left_words (goes i) (at + 1) rest) ∙ append_assoc old ended left
    ∙ ap (λ (ws : List Part). old ++ ws) (step_cut c begun at (c == 32) rest (slice_split (λ c. c == 32) rest) refl)
    ∙ ap (λ (bytes : List ℕ). old ++ left_words begun at bytes) (sym (drop_more line at 0 less)) ∙ before

-- after the last byte, the word that has begun ends
pub words_end : (begun : Option ℕ) (at : ℕ) → left_words begun at [] ≡ ended_word begun at true
words_end None at = ap (λ (b : Bool). cond b (part at (at + 0) ∷ []) []) (empty at)
words_end (Some from) at = let zero : at + 0 ≡ at = omega arith in ap (λ (n : ℕ). part from n ∷ []) zero

-- all bytes are done
pub words_all : (line : List ℕ) (at : ℕ) (begun : Option ℕ) (old new : List Part) → at ≡ length line → old ++ left_words begun at (drop at line) ≡ words_of line
    → new ≡ old ++ ended_word begun (length line) true → new ≡ words_of line
words_all line at begun old new end before more =
    more ∙ ap (λ (ws : List Part). old ++ ws) (sym (words_end begun (length line)))
    ∙ ap (λ (bytes : List ℕ). old ++ left_words begun (length line) bytes) (sym (drop_all (length line) line (omega arith)))
    ∙ ap (λ (n : ℕ). old ++ left_words begun n (drop n line)) (sym end) ∙ before
