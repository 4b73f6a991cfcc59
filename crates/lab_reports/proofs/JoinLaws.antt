-- The parts of a text that was joined of a word and pairs are these.
use Rattle.std.proofs.Common.{arith, ◌≡◌, ℕ, suc, ◌+◌, ◌==◌, not, List, [], ◌∷◌, ◌++◌, append_assoc, append-nil, length, take, drop, refl, ◌∙◌, ap, sym}
use Rattle.std.proofs.Math.Seq.{take-append_seam, take-length}
use Rattle.std.proofs.lemmas.List.{drop_all}
use Rattle.std.proofs.lemmas.Bool.{and_parts, not-true}
use Rattle.std.specs.List.{after_first, list_all, position_or_len}
use Rattle.lab_traces.specs.Parts.{Lacks}
use Rattle.lab_reports.specs.Calls.{ArePairs, IsJoined, Pair, call_pairs, call_word, pairs_behind, pairs_of, pairs_text, pieces}
use Rattle.lab_reports.proofs.CallLaws.{last_at, lacks_cut, lacks_join, pieces-clean, some_pieces, value_with}

-- ---- pairs

pairs_back : (key value : List ℕ) (more : List Pair) → Lacks 61 value → ArePairs more → pairs_behind key (pieces (value ++ pairs_text more)) ≡ (key, value) ∷ more
pairs_back key value [] v h = rw (append-nil value, pieces-clean value v) refl
pairs_back key value ((other, text) ∷ more) v h =
    let behind = text ++ pairs_text more in
    let piece = value ++ 32 ∷ other in
    let clean : Lacks 61 piece = lacks_join value other v h.1 in
    let parts : pieces (value ++ 32 ∷ (other ++ 61 ∷ behind)) ≡ piece ∷ pieces behind = ap pieces (sym (append_assoc value (32 ∷ other) (61 ∷ behind))) ∙ lacks_cut piece behind clean in
    rw parts (value_with key piece value other (pieces behind) (some_pieces behind) (last_at value other h.0))
    ∙ ap (λ (x : List Pair). (key, value) ∷ x) (pairs_back other text more h.2 h.3)

-- ---- the word

space_at : (word rest : List ℕ) → Lacks 32 word → position_or_len (λ b. b == 32) (word ++ 32 ∷ rest) ≡ length word
space_at [] rest h = refl
space_at (x ∷ word) rest h =
    let (here, more) = and_parts (not (x == 32)) (list_all (λ b. not (b == 32)) word) h in
    rw (not-true _ here, space_at word rest more) (omega arith)

no_space : (word : List ℕ) → Lacks 32 word → position_or_len (λ b. b == 32) word ≡ length word
no_space [] h = refl
no_space (x ∷ word) h =
    let (here, more) = and_parts (not (x == 32)) (list_all (λ b. not (b == 32)) word) h in
    rw (not-true _ here, no_space word more) (omega arith)

drop_past : (word rest : List ℕ) → drop (length word + 1) (word ++ 32 ∷ rest) ≡ rest
drop_past [] rest = refl
drop_past (x ∷ word) rest = let e : length (x ∷ word) + 1 ≡ suc (length word + 1) = omega arith in rw e (drop_past word rest)

word_of : (word : List ℕ) (pairs : List Pair) → Lacks 32 word → call_word (word ++ pairs_text pairs) ≡ word
word_of word [] h = rw (append-nil word, no_space word h) (take-length word)
word_of word (pair ∷ more) h = rw (space_at word (pair.0 ++ 61 ∷ (pair.1 ++ pairs_text more)) h) (take-append_seam word (pairs_text (pair ∷ more)))

behind_word : (word rest : List ℕ) → Lacks 32 word → after_first (λ b. b == 32) (word ++ 32 ∷ rest) ≡ rest
behind_word word rest h = rw (space_at word rest h) (drop_past word rest)

nothing_behind : (word : List ℕ) → Lacks 32 word → after_first (λ b. b == 32) word ≡ []
nothing_behind word h = rw (no_space word h) (drop_all (length word + 1) word (omega arith))

pairs_from : (word : List ℕ) (pairs : List Pair) → Lacks 32 word → ArePairs pairs → pairs_of (pieces (after_first (λ b. b == 32) (word ++ pairs_text pairs))) ≡ pairs
pairs_from word [] h k = rw (append-nil word, nothing_behind word h) refl
pairs_from word ((key, value) ∷ more) h k =
    rw (behind_word word (key ++ 61 ∷ (value ++ pairs_text more)) h, lacks_cut key (value ++ pairs_text more) k.1) (pairs_back key value more k.2 k.3)

word_back : (call word : List ℕ) (pairs : List Pair) → IsJoined call word pairs → call_word call ≡ word
word_back call word pairs h = ap call_word h.whole ∙ word_of word pairs h.one_word

pairs_told : (call word : List ℕ) (pairs : List Pair) → IsJoined call word pairs → call_pairs call ≡ take 8 pairs
pairs_told call word pairs h = ap call_pairs h.whole ∙ ap (λ (x : List Pair). take 8 x) (pairs_from word pairs h.one_word h.are_pairs)

-- a word and pairs that are those of a text
pub parts_back : (call word given : List ℕ) (pairs told : List Pair) → given ≡ call_word call → told ≡ call_pairs call → IsJoined call word pairs → (given ≡ word) × (told ≡ take 8 pairs)
parts_back call word given pairs told g t h = (g ∙ word_back call word pairs h, t ∙ pairs_told call word pairs h)
