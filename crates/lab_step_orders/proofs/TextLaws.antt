-- Lists that are the same, or the same but for one element.
use Rattle.std.proofs.Common.{◌≡◌, ℕ, zero, suc, ◌<◌, true, List, [], ◌∷◌, length, get_or, map, refl, sym, ap, ◌∙◌, arith}
use Rattle.std.specs.Prelude.{String, slice_index_or, slice_set, string_bytes, string_eq}
use Rattle.std.specs.Cmp.Lexicographic.{pointwise, same_text}
use Rattle.std.proofs.lemmas.Bool.{and_parts}
use Rattle.lab_step_orders.specs.Seen.{answers_after}
use Rattle.lab_step_orders.specs.declared.steps.Then.{Then}

-- lists of texts that are the same one by one
pub same_texts : {Z : Type 0} (xs ys : List (String Z)) → pointwise string_eq xs ys ≡ true → map string_bytes xs ≡ map string_bytes ys
same_texts [] [] e = refl
same_texts [] (y ∷ ys) e = cc
same_texts (x ∷ xs) [] e = cc
same_texts (x ∷ xs) (y ∷ ys) e =
    let both = and_parts (string_eq x y) (pointwise string_eq xs ys) e in
    let one : string_bytes x ≡ string_bytes y = same_text (string_bytes x) (string_bytes y) (sym both.0) in
    cc (one, same_texts xs ys both.1)

pub mapped_set : {A B : Type 0} (f : A → B) (xs : List A) (i : ℕ) (v : A) → map f (slice_set xs i v) ≡ slice_set (map f xs) i (f v)
mapped_set f [] i v = refl
mapped_set f (x ∷ xs) zero v = refl
mapped_set {B = B} f (x ∷ xs) (suc i) v = ap (λ (ys : List B). f x ∷ ys) (mapped_set f xs i v)

mapped_at : {A B : Type 0} (f : A → B) (xs : List A) (i : ℕ) (r : A) (d : B) → i < length xs → r ≡ get_or xs i r → get_or (map f xs) i d ≡ f r
mapped_at f [] i r d lt is = absurd (omega arith)
mapped_at f (x ∷ xs) zero r d lt is = ap f (sym is)
mapped_at f (x ∷ xs) (suc i) r d lt is = mapped_at f xs i r d (omega arith) is

-- an element of a list, whatever is given for those that aren't there
pub index_is : {A : Type 0} (xs : List A) (i : ℕ) (r d : A) → i < length xs → r ≡ get_or xs i r → r ≡ get_or xs i d
index_is [] i r d lt is = absurd (omega arith)
index_is (x ∷ xs) zero r d lt is = is
index_is (x ∷ xs) (suc i) r d lt is = index_is xs i r d (omega arith) is

-- one text of a list was replaced by what a turn makes of it
pub answers_set : {Z : Type 0} (answers all : List (String Z)) (i : ℕ) (told r : String Z) (then : Then) → i < length answers
    → map string_bytes all ≡ map string_bytes answers → r ≡ get_or answers i r → string_bytes told ≡ answers_after then (string_bytes r)
    → map string_bytes (slice_set all i told) ≡ slice_set (map string_bytes answers) i (answers_after then (slice_index_or (map string_bytes answers) i []))
answers_set answers all i told r then lt same is said =
    let now : string_bytes told ≡ answers_after then (slice_index_or (map string_bytes answers) i []) =
    said ∙ ap (λ (text : List ℕ). answers_after then text) (sym (mapped_at string_bytes answers i r [] lt is)) in
    mapped_set string_bytes all i told ∙ (λ k. slice_set (same k) i (now k))
