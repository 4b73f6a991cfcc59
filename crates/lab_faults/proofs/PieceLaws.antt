-- The pieces that are to come, one byte on.
use Rattle.std.proofs.Common.{◌≡◌, ◌∙◌, ℕ, suc, ◌+◌, ◌==◌, Bool, true, false, cond, List, [], ◌∷◌, ◌++◌, Option, Some, None, refl, sym, ap, append_assoc, arith}
use Rattle.std.specs.List.{prefix_len}
use Rattle.std.specs.Option.{unwrap_or, option_map}
use Rattle.std.proofs.lemmas.Bool.{false≢true}
use Rattle.std.proofs.lemmas.List.{append-nil}
use Rattle.lab_faults.specs.Pieces.{begun_word, closes, closing, token_ended, escapes, is_in_line, is_plain, is_quote, mark, token_marked, pieces_from, quoted_from, to_come, word, word_from}
use Rattle.lab_faults.specs.declared.tokens.Reading.TheVariants.{Quoted, Comment}
use Rattle.lab_faults.specs.declared.tokens.Token.{Token}

yes : {A : Type 0} (b : Bool) (then other : A) → b ≡ true → cond b then other ≡ then
yes true then other e = refl
yes false then other e = absurd (false≢true e)

no : {A : Type 0} (b : Bool) (then other : A) → b ≡ false → cond b then other ≡ other
no true then other e = absurd (false≢true (sym e))
no false then other e = refl

-- ---- words

-- a byte that is passed
one_passed : (at byte n : ℕ) (rest : List ℕ) → pieces_from at (suc n) (byte ∷ rest) ≡ pieces_from (at + 1) n rest
unfolding pieces_from
one_passed at byte n rest = refl

further : (from at byte n m : ℕ) (rest : List ℕ) → m ≡ suc n
    → word_from from at m (λ passed. pieces_from at passed (byte ∷ rest)) ≡ word_from from (at + 1) n (λ passed. pieces_from (at + 1) passed rest)
further from at byte n m rest e =
    let sum : at + suc n ≡ at + 1 + n = omega arith in
    ap (λ (k : ℕ). word from (at + k) ∷ pieces_from at k (byte ∷ rest)) e
    ∙ ap (λ (to : ℕ). word from to ∷ pieces_from at (suc n) (byte ∷ rest)) sum
    ∙ ap (λ (behind : List Token). word from (at + 1 + n) ∷ behind) (one_passed at byte n rest)

-- a byte of a word, where one may have begun
pub word_on : (begun : Option ℕ) (at byte : ℕ) (rest : List ℕ) → is_plain byte ≡ true
    → begun_word begun at (byte ∷ rest) ≡ begun_word (Some (unwrap_or begun at)) (at + 1) rest
unfolding pieces_from
word_on None at byte rest e = yes (is_plain byte) _ _ e
word_on (Some from) at byte rest e =
    let one : 1 + prefix_len is_plain rest ≡ suc (prefix_len is_plain rest) = omega arith in
    further from at byte (prefix_len is_plain rest) _ rest (yes (is_plain byte) (1 + prefix_len is_plain rest) 0 e ∙ one)

-- where a text ends
pub word_ends : (begun : Option ℕ) (to : ℕ) → begun_word begun to [] ≡ token_ended begun to
unfolding pieces_from
word_ends None to = refl
word_ends (Some from) to = let same : to + 0 ≡ to = omega arith in ap (λ (end : ℕ). word from end ∷ []) same

pub none_left : (tokens : List Token) (to : ℕ) → tokens ≡ tokens ++ to_come Comment to []
unfolding pieces_from
none_left tokens to = sym (append-nil tokens)

-- ---- bytes of no word

pub quote_on : (at byte : ℕ) (rest : List ℕ) → is_plain byte ≡ false → is_quote byte ≡ true
    → pieces_from at 0 (byte ∷ rest) ≡ to_come (Quoted at byte false) (at + 1) rest
unfolding pieces_from
quote_on at byte rest e q = no (is_plain byte) _ _ e ∙ yes (is_quote byte) _ _ q

pub sign_on : (at byte : ℕ) (rest : List ℕ) → is_plain byte ≡ false → is_quote byte ≡ false → (byte == 35) ≡ true
    → pieces_from at 0 (byte ∷ rest) ≡ to_come Comment (at + 1) rest
unfolding pieces_from
sign_on at byte rest e q s = no (is_plain byte) _ _ e ∙ no (is_quote byte) _ _ q ∙ yes (byte == 35) _ _ s

pub mark_on : (at byte : ℕ) (rest : List ℕ) → is_plain byte ≡ false → is_quote byte ≡ false → (byte == 35) ≡ false
    → pieces_from at 0 (byte ∷ rest) ≡ token_marked at (mark byte) ++ pieces_from (at + 1) 0 rest
unfolding pieces_from
mark_on at byte rest e q s = no (is_plain byte) _ _ e ∙ no (is_quote byte) _ _ q ∙ no (byte == 35) _ _ s

-- ---- quoted texts and comments

quoted_more : (from at byte : ℕ) (rest : List ℕ) (more : Option ℕ)
    → quoted_from from at (option_map suc more) (λ passed. pieces_from at passed (byte ∷ rest)) ≡ quoted_from from (at + 1) more (λ passed. pieces_from (at + 1) passed rest)
quoted_more from at byte rest None = refl
quoted_more from at byte rest (Some n) = further from at byte n (suc n) rest refl

pub quoted_on : (from quote : ℕ) (escaped : Bool) (at byte : ℕ) (rest : List ℕ) → closes quote escaped byte ≡ false
    → to_come (Quoted from quote escaped) at (byte ∷ rest) ≡ to_come (Quoted from quote (escapes quote escaped byte)) (at + 1) rest
quoted_on from quote escaped at byte rest e =
    ap (λ (more : Option ℕ). quoted_from from at more (λ passed. pieces_from at passed (byte ∷ rest))) (no (closes quote escaped byte) (Some 1) _ e)
    ∙ quoted_more from at byte rest (closing quote (escapes quote escaped byte) rest)

pub quoted_over : (from quote : ℕ) (escaped : Bool) (at byte : ℕ) (rest : List ℕ) → closes quote escaped byte ≡ true
    → to_come (Quoted from quote escaped) at (byte ∷ rest) ≡ word from (at + 1) ∷ pieces_from (at + 1) 0 rest
quoted_over from quote escaped at byte rest e =
    ap (λ (more : Option ℕ). quoted_from from at more (λ passed. pieces_from at passed (byte ∷ rest))) (yes (closes quote escaped byte) (Some 1) _ e)
    ∙ ap (λ (behind : List Token). word from (at + 1) ∷ behind) (one_passed at byte 0 rest)

pub comment_on : (at byte : ℕ) (rest : List ℕ) → is_in_line byte ≡ true → to_come Comment at (byte ∷ rest) ≡ to_come Comment (at + 1) rest
comment_on at byte rest e =
    let one : 1 + prefix_len is_in_line rest ≡ suc (prefix_len is_in_line rest) = omega arith in
    ap (λ (n : ℕ). pieces_from at n (byte ∷ rest)) (yes (is_in_line byte) (1 + prefix_len is_in_line rest) 0 e ∙ one) ∙ one_passed at byte (prefix_len is_in_line rest) rest

-- ---- after those that were noted

-- some were noted, and these are to come
pub noted : (old new some left right : List Token) → new ≡ old ++ some → left ≡ some ++ right → old ++ left ≡ new ++ right
noted old new some left right e f =
    ap (λ (behind : List Token). old ++ behind) f ∙ sym (append_assoc old some right) ∙ ap (λ (front : List Token). front ++ right) (sym e)
