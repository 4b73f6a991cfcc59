-- Texts that are the same.
use Rattle.std.proofs.Common.{◌≡◌, ℕ, zero, suc, ◌<◌, true, ◌&&◌, List, [], ◌∷◌, ◌++◌, append_assoc, length, get_or, map, Result, refl, sym, ap, ◌∙◌, arith}
use Rattle.std.specs.Prelude.{Err, Ok, OnOk, String, if◌then◌else◌, is_ok, slice_index, slice_index_or, slice_set, string_bytes, string_eq}
use Rattle.std.specs.Cmp.Lexicographic.{pointwise, same_text}
use Rattle.std.proofs.lemmas.Bool.{and_parts}
use Rattle.evl_base.specs.declared.refusal.Refusal.{Refusal}
use Rattle.evl_base.specs.declared.reply.Reply.{Reply}
use Rattle.lab_scenario_orders.specs.Callers.{answer_line}

-- lists of texts that are the same one by one
pub same_texts : {Z : Type 0} (xs ys : List (String Z)) → pointwise string_eq xs ys ≡ true → map string_bytes xs ≡ map string_bytes ys
same_texts [] [] e = refl
same_texts [] (y ∷ ys) e = cc
same_texts (x ∷ xs) [] e = cc
same_texts (x ∷ xs) (y ∷ ys) e =
    let both = and_parts (string_eq x y) (pointwise string_eq xs ys) e in
    let one : string_bytes x ≡ string_bytes y = same_text (string_bytes x) (string_bytes y) (sym both.0) in
    cc (one, same_texts xs ys both.1)

mapped_set : {A B : Type 0} (f : A → B) (xs : List A) (i : ℕ) (v : A) → map f (slice_set xs i v) ≡ slice_set (map f xs) i (f v)
mapped_set f [] i v = refl
mapped_set f (x ∷ xs) zero v = refl
mapped_set {B = B} f (x ∷ xs) (suc i) v = ap (λ (ys : List B). f x ∷ ys) (mapped_set f xs i v)

mapped_at : {A B : Type 0} (f : A → B) (xs : List A) (i : ℕ) (r : A) (d : B) → i < length xs → r ≡ get_or xs i r → get_or (map f xs) i d ≡ f r
mapped_at f [] i r d lt is = absurd (omega arith)
mapped_at f (x ∷ xs) zero r d lt is = ap f (sym is)
mapped_at f (x ∷ xs) (suc i) r d lt is = mapped_at f xs i r d (omega arith) is

-- a number of a list, whatever is given for those that aren't there
pub index_is : (xs : List ℕ) (i r : ℕ) → i < length xs → r ≡ get_or xs i r → r ≡ slice_index xs i
index_is [] i r lt is = absurd (omega arith)
index_is (x ∷ xs) zero r lt is = is
index_is (x ∷ xs) (suc i) r lt is = index_is xs i r (omega arith) is

-- one text of a list was replaced by itself with an answer after it
pub answers_set : {Z : Type 0} (answers all : List (String Z)) (i : ℕ) (told r : String Z) (reply : Result Reply Refusal) → i < length answers
    → map string_bytes all ≡ map string_bytes answers → r ≡ get_or answers i r → string_bytes told ≡ answer_line (string_bytes r) reply
    → map string_bytes (slice_set all i told) ≡ slice_set (map string_bytes answers) i (answer_line (slice_index_or (map string_bytes answers) i []) reply)
answers_set answers all i told r reply lt same is said =
    let now : string_bytes told ≡ answer_line (slice_index_or (map string_bytes answers) i []) reply =
    said ∙ ap (λ (text : List ℕ). answer_line text reply) (sym (mapped_at string_bytes answers i r [] lt is)) in
    mapped_set string_bytes all i told ∙ (λ k. slice_set (same k) i (now k))

-- three texts that were written one after another
pub three_written : (text one two a b c d : List ℕ) → one ≡ text ++ a → two ≡ one ++ b → b ≡ d → two ++ c ≡ text ++ (a ++ (d ++ c))
three_written text one two a b c d first second same =
    ap (λ (t : List ℕ). t ++ c) (second ∙ (ap (λ (t : List ℕ). t ++ b) first ∙ (append_assoc text a b ∙ ap (λ (t : List ℕ). text ++ (a ++ t)) same)))
    ∙ (append_assoc text (a ++ d) c ∙ ap (λ (t : List ℕ). text ++ t) (append_assoc a d c))

-- the last of them is written, or memory ran out
pub written_if : {X E : Type 0} (r : Result X E) (new old text whole : List ℕ) → new ≡ (if is_ok r then old ++ text else old) → old ++ text ≡ whole → OnOk r (new ≡ whole)
written_if (Ok x) new old text whole is same = is ∙ same
written_if (Err e) new old text whole is same = tt
