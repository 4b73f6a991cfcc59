-- Parts put together are taken apart again, and parts taken apart were put together so.
use Rattle.std.proofs.Common.{arith, ◌≡◌, ℕ, suc, ◌+◌, ◌-◌, ◌==◌, ◌<◌, nat_eq, nat_lt, lt-ltb, Bool, true, false, not, List, [], ◌∷◌, ◌++◌, length, take, drop, get_or, if◌then◌else◌, Some, None, Option, refl, ◌∙◌, ap, length-append}
use Rattle.std.proofs.lemmas.Bool.{and_parts, ltb-true, eqb-true, eq-eqb}
use Rattle.std.proofs.lemmas.List.Folds.{list_all-append}
use Rattle.std.proofs.lemmas.List.Sums.{split_at_first, passes_at_first}
use Rattle.std.proofs.lemmas.Slice.Eq.{starts_is, ends_is}
use Rattle.std.proofs.Math.Seq.{take-append_seam}
use Rattle.std.specs.List.{before_first, after_first, list_all, position_or_len, starts_with, ends_with}
use Rattle.lab_traces.specs.Parts.{around, before_end, Lacks}
use Rattle.evl_scenario.specs.Values.{past_front}

-- ---- around a byte

around_cases : (c : ℕ) (t a b : List ℕ) (v : Bool) → nat_lt (position_or_len (λ x. x == c) t) (length t) ≡ v
    → if◌then◌else◌ {A = Option (List ℕ × List ℕ)} v (Some (before_first (λ x. x == c) t, after_first (λ x. x == c) t)) None ≡ Some (a, b) → t ≡ a ++ c ∷ b
around_cases c t a b true e h =
    let inside : position_or_len (λ x. x == c) t < length t = ltb-true _ _ e in
    let at : get_or t (position_or_len (λ x. x == c) t) 0 ≡ c = eqb-true _ _ (passes_at_first (λ x. x == c) t 0 inside) in
    let cut : List ℕ × List ℕ = (before_first (λ x. x == c) t, after_first (λ x. x == c) t) in
    let given : List ℕ × List ℕ = (a, b) in
    let same : cut ≡ given = cc in
    let front : before_first (λ x. x == c) t ≡ a = ap (λ (p : List ℕ × List ℕ). p.0) same in
    let back : after_first (λ x. x == c) t ≡ b = ap (λ (p : List ℕ × List ℕ). p.1) same in
    split_at_first (λ x. x == c) t 0 inside ∙ rw (at, front, back)
around_cases c t a b false e h = cc

pub around-whole : (c : ℕ) (t a b : List ℕ) → around c t ≡ Some (a, b) → t ≡ a ++ c ∷ b
around-whole c t a b h = around_cases c t a b _ refl h

lacks_cases : (c x : ℕ) (t : List ℕ) (v : Bool) → (x == c) ≡ v → Lacks c (before_first (λ b. b == c) t) → Lacks c (before_first (λ b. b == c) (x ∷ t))
lacks_cases c x t true e h = rw e refl
lacks_cases c x t false e h = let one : 1 + position_or_len (λ b. b == c) t ≡ suc (position_or_len (λ b. b == c) t) = omega arith in rw (e, one, e, h) refl

pub first_lacks : (c : ℕ) (t : List ℕ) → Lacks c (before_first (λ b. b == c) t)
first_lacks c [] = refl
first_lacks c (x ∷ t) = lacks_cases c x t (x == c) refl (first_lacks c t)

first_at : (c : ℕ) (a b : List ℕ) → Lacks c a → position_or_len (λ x. x == c) (a ++ c ∷ b) ≡ length a
first_at c [] b h = rw (eq-eqb c c refl)
first_at c (x ∷ a) b h =
    let (here, more) = and_parts (not (x == c)) (list_all (λ y. not (y == c)) a) h in
    rw (here, first_at c a b more) (omega arith)

drop_past : (c : ℕ) (a b : List ℕ) → drop (length a + 1) (a ++ c ∷ b) ≡ b
drop_past c [] b = refl
drop_past c (x ∷ a) b = let e : length (x ∷ a) + 1 ≡ suc (length a + 1) = omega arith in rw e (drop_past c a b)

pub around-at : (c : ℕ) (a b : List ℕ) → Lacks c a → around c (a ++ c ∷ b) ≡ Some (a, b)
around-at c a b h =
    let size = length-append a (c ∷ b) in
    let inside : nat_lt (length a) (length (a ++ c ∷ b)) ≡ true = lt-ltb _ _ (omega (arith, size)) in
    rw (first_at c a b h, inside, take-append_seam a (c ∷ b), drop_past c a b) refl

pub lacks-append : (c : ℕ) (a b : List ℕ) → Lacks c a → Lacks c b → Lacks c (a ++ b)
lacks-append c a b p q = list_all-append (λ x. not (x == c)) a b ∙ rw (p, q) refl

-- ---- front parts and ends

drop_front : (a b : List ℕ) → drop (length a) (a ++ b) ≡ b
drop_front [] b = refl
drop_front (x ∷ a) b = drop_front a b

past_cases : (f t r : List ℕ) (v : Bool) → starts_with nat_eq t f ≡ v → (if v then Some (drop (length f) t) else None) ≡ Some r → t ≡ f ++ r
past_cases f t r true e h =
    let rest : drop (length f) t ≡ r = cc in
    (starts_is (λ a b. (eqb-true a b, eq-eqb a b)) t f _ refl).0 e ∙ ap (λ (x : List ℕ). f ++ x) rest
past_cases f t r false e h = cc

pub past-whole : (f t r : List ℕ) → past_front f t ≡ Some r → t ≡ f ++ r
past-whole f t r h = past_cases f t r _ refl h

pub past-at : (f r : List ℕ) → past_front f (f ++ r) ≡ Some r
past-at f r =
    let starts : starts_with nat_eq (f ++ r) f ≡ true = (starts_is (λ a b. (eqb-true a b, eq-eqb a b)) (f ++ r) f _ refl).1 r refl in
    rw (starts, drop_front f r)

before_cases : (e t r : List ℕ) (v : Bool) → ends_with nat_eq t e ≡ v → (if v then Some (take (length t - length e) t) else None) ≡ Some r → t ≡ r ++ e
before_cases e t r true h k =
    let front : take (length t - length e) t ≡ r = cc in
    (ends_is (λ a b. (eqb-true a b, eq-eqb a b)) t e _ refl).0 h ∙ ap (λ (x : List ℕ). x ++ e) front
before_cases e t r false h k = cc

pub before-whole : (e t r : List ℕ) → before_end e t ≡ Some r → t ≡ r ++ e
before-whole e t r h = before_cases e t r _ refl h

pub before-at : (e r : List ℕ) → before_end e (r ++ e) ≡ Some r
before-at e r =
    let ends : ends_with nat_eq (r ++ e) e ≡ true = (ends_is (λ a b. (eqb-true a b, eq-eqb a b)) (r ++ e) e _ refl).1 r refl in
    let size : length (r ++ e) - length e ≡ length r = omega (arith, length-append r e) in
    rw (ends, size, take-append_seam r e)
