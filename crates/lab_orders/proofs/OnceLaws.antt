-- Texts, each once: one more after them.
use Rattle.std.proofs.Common.{◌≡◌, ℕ, Bool, true, false, cond, List, [], ◌∷◌, ◌++◌, Option, map, refl, sym, ap, ◌∙◌, append_assoc, append-nil}
use Rattle.std.specs.Prelude.{◌||◌, filter, filter_map, if◌then◌else◌, not}
use Rattle.std.specs.List.{cons_option, list_any}
use Rattle.std.specs.Str.{bytes_eq}
use Rattle.std.proofs.lemmas.Slice.Eq.{bytes_eq-Decides}
use Rattle.lab_orders.specs.Answers.{each_once}
use Rattle.lab_orders.specs.Seen.{with_new}

-- these texts, and those of more that are new
abbrev pub gathered : List (List ℕ) → List (List ℕ) → List (List ℕ)
gathered texts [] = texts
gathered texts (text ∷ rest) = gathered (with_new texts text) rest

-- those that aren't this one
abbrev others : List ℕ → List (List ℕ) → List (List ℕ)
others text all = filter (λ other. not (bytes_eq text other)) all

abbrev is_in : List (List ℕ) → List ℕ → Bool
is_in all text = list_any (λ other. bytes_eq other text) all

push_by : {X : Type 0} (b : Bool) (x : X) (more kept last : List X) → more ≡ kept ++ last → cond b (x ∷ more) more ≡ cond b (x ∷ kept) kept ++ last
push_by {X} true x more kept last e = ap (λ (all : List X). x ∷ all) e
push_by false x more kept last e = e

filter_push : {X : Type 0} (p : X → Bool) (xs : List X) (x : X) → filter p (xs ++ x ∷ []) ≡ filter p xs ++ filter p (x ∷ [])
filter_push p [] x = refl
filter_push p (y ∷ ys) x = push_by (p y) y (filter p (ys ++ x ∷ [])) (filter p ys) (filter p (x ∷ [])) (filter_push p ys x)

in_by : (text x y : List ℕ) (kept rest : List (List ℕ)) (b : Bool) → bytes_eq text y ≡ b → bytes_eq text x ≡ false → is_in kept x ≡ is_in rest x
    → is_in (cond (not b) (y ∷ kept) kept) x ≡ (bytes_eq y x || is_in rest x)
in_by text x y kept rest true same apart e =
    let other : bytes_eq y x ≡ false = ap (λ (t : List ℕ). bytes_eq t x) (sym ((bytes_eq-Decides text y).0 same)) ∙ apart in
    e ∙ sym (ap (λ (b : Bool). b || is_in rest x) other)
in_by text x y kept rest false same apart e = ap (λ (b : Bool). bytes_eq y x || b) e

in_others : (text x : List ℕ) (all : List (List ℕ)) → bytes_eq text x ≡ false → is_in (others text all) x ≡ is_in all x
in_others text x [] apart = refl
in_others text x (y ∷ all) apart = in_by text x y (others text all) all (bytes_eq text y) refl apart (in_others text x all apart)

new_by : (text x : List ℕ) (all : List (List ℕ)) (b a : Bool) → bytes_eq text x ≡ b → is_in all x ≡ a
    → text ∷ others text (if a then all else all ++ x ∷ []) ≡ (if (b || is_in (others text all) x) then text ∷ others text all else text ∷ (others text all ++ x ∷ []))
new_by text x all true true same there = refl
new_by text x all true false same there =
    ap (λ (rest : List (List ℕ)). text ∷ rest)
    (filter_push (λ other. not (bytes_eq text other)) all x ∙ (ap (λ (b : Bool). others text all ++ cond (not b) (x ∷ []) []) same ∙ append-nil (others text all)))
new_by text x all false true same there =
    sym (ap (λ (b : Bool). if b then text ∷ others text all else text ∷ (others text all ++ x ∷ [])) (in_others text x all same ∙ there))
new_by text x all false false same there =
    ap (λ (rest : List (List ℕ)). text ∷ rest) (filter_push (λ other. not (bytes_eq text other)) all x ∙ ap (λ (b : Bool). others text all ++ cond (not b) (x ∷ []) []) same)
    ∙ sym (ap (λ (b : Bool). if b then text ∷ others text all else text ∷ (others text all ++ x ∷ [])) (in_others text x all same ∙ there))

once_push : (all : List (List ℕ)) (x : List ℕ) → each_once (all ++ x ∷ []) ≡ with_new (each_once all) x
once_push [] x = refl
once_push (text ∷ all) x =
    ap (λ (rest : List (List ℕ)). text ∷ others text rest) (once_push all x) ∙ new_by text x (each_once all) (bytes_eq text x) (is_in (each_once all) x) refl refl

gathered_behind : (before all : List (List ℕ)) → gathered (each_once before) all ≡ each_once (before ++ all)
gathered_behind before [] = ap each_once (sym (append-nil before))
gathered_behind before (text ∷ all) =
    ap (λ (texts : List (List ℕ)). gathered texts all) (sym (once_push before text))
    ∙ (gathered_behind (before ++ text ∷ []) all ∙ ap each_once (append_assoc before (text ∷ []) all))

-- all that come are there, each once
pub gathered_once : (all : List (List ℕ)) → gathered [] all ≡ each_once all
gathered_once all = gathered_behind [] all

pub filter_map-map : {X Y Z : Type 0} (h : Y → Option Z) (g : X → Y) (xs : List X) → filter_map h (map g xs) ≡ filter_map (λ x. h (g x)) xs
filter_map-map h g [] = refl
filter_map-map {Z = Z} h g (x ∷ xs) = ap (λ (rest : List Z). cons_option (h (g x)) rest) (filter_map-map h g xs)
