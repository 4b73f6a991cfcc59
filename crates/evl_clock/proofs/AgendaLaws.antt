-- The agenda of a list of dates: ordered, and what becomes of it where one date is written.
use Rattle.std.proofs.Common.{◌≡◌, ◌≢◌, ℕ, suc, zero, ◌+◌, ◌-◌, ◌≤◌, ◌<◌, ◌==◌, ◌⊎◌, inl, inr, Bool, true, false, nat_lt, List, [], ◌∷◌, length, take, insert, remove, Option, Some, None, IfSome, if◌then◌else◌, slice_get, slice_index_or, slice_set, refl, sym, ap, ◌∙◌, subst, arith}
use Rattle.std.specs.List.{AllByRecursion}
use Rattle.std.proofs.lemmas.Bool.{eq-eqb, eqb-false, eqb-true, lt-ltb, ltb-false, ltb-true, ne_eqb}
use Rattle.std.proofs.lemmas.List.{get_or-set_same, length-set, set-get_or, set-set}
use Rattle.std.proofs.lemmas.Option.{same_Some, none-some}
use Rattle.evl_pipeline.proofs.PortLaws.{within}
use Rattle.evl_clock.specs.declared.agenda.Entry.{Entry}
use Rattle.evl_clock.specs.Agenda.{IsOrdered, agenda_from, with_date, entry, first_entry as first, is_before, without_date, place_of, with_entry}

-- the order

abbrev Before : Entry → Entry → Type 0
Before a b = (a.date < b.date) ⊎ ((a.date ≡ b.date) × (a.place < b.place))

pub before-of : (a b : Entry) → is_before a b ≡ true → Before a b
before-of a b e = by (a.date == b.date) refl e
  where
    by : (q : Bool) → (a.date == b.date) ≡ q → (if q then nat_lt a.place b.place else nat_lt a.date b.date) ≡ true → Before a b
    by true same e = inr (eqb-true a.date b.date same, ltb-true a.place b.place e)
    by false unlike e = inl (ltb-true a.date b.date e)

before_is : (a b : Entry) → Before a b → is_before a b ≡ true
before_is a b (inl h) =
    let no : (a.date == b.date) ≡ false = ne_eqb a.date b.date (λ same. omega arith) in
    ap (λ q. if q then nat_lt a.place b.place else nat_lt a.date b.date) no ∙ lt-ltb a.date b.date h
before_is a b (inr h) =
    let yes : (a.date == b.date) ≡ true = eq-eqb a.date b.date h.0 in
    ap (λ q. if q then nat_lt a.place b.place else nat_lt a.date b.date) yes ∙ lt-ltb a.place b.place h.1

-- what is no more before than after is at equal dates in a higher place, or in the same
pub not-before : (a b : Entry) → is_before a b ≡ false → (b.date < a.date) ⊎ ((a.date ≡ b.date) × (b.place ≤ a.place))
not-before a b e = by (a.date == b.date) refl e
  where
    by : (q : Bool) → (a.date == b.date) ≡ q → (if q then nat_lt a.place b.place else nat_lt a.date b.date) ≡ false → (b.date < a.date) ⊎ ((a.date ≡ b.date) × (b.place ≤ a.place))
    by true same e = inr (eqb-true a.date b.date same, ltb-false a.place b.place e)
    by false unlike e =
        let other : a.date ≢ b.date = eqb-false a.date b.date unlike in
        let least : b.date ≤ a.date = ltb-false a.date b.date e in
        inl (omega arith)

trans : (a b c : Entry) → Before a b → Before b c → Before a c
trans a b c (inl h) (inl k) = inl (omega arith)
trans a b c (inl h) (inr k) = inl (omega (arith, k.0))
trans a b c (inr h) (inl k) = inl (omega (arith, h.0))
trans a b c (inr h) (inr k) = inr (h.0 ∙ k.0, omega (arith, h.1, k.1))

before-trans : (a b c : Entry) → is_before a b ≡ true → is_before b c ≡ true → is_before a c ≡ true
before-trans a b c h k = before_is a c (trans a b c (before-of a b h) (before-of b c k))

apart_by : (a b : Entry) → (a.place ≡ b.place → ⊥) → (b.date < a.date) ⊎ ((a.date ≡ b.date) × (b.place ≤ a.place)) → Before b a
apart_by a b other (inl h) = inl h
apart_by a b other (inr h) = inr (sym h.0, omega (arith, h.1, other))

before-apart : (a b : Entry) → (a.place ≡ b.place → ⊥) → is_before a b ≡ false → is_before b a ≡ true
before-apart a b other e = before_is b a (apart_by a b other (not-before a b e))

-- nothing is before itself, nor both ways round
never : (a b : Entry) → Before a b → Before b a → ⊥
never a b (inl h) (inl k) = omega arith
never a b (inl h) (inr k) = omega (arith, k.0)
never a b (inr h) (inl k) = omega (arith, h.0)
never a b (inr h) (inr k) = omega (arith, h.1, k.1)

not_both : (a b : Entry) → is_before a b ≡ true → is_before b a ≡ true → ⊥
not_both a b h k = never a b (before-of a b h) (before-of b a k)

only_one : (a b : Entry) (q : Bool) → is_before b a ≡ q → is_before a b ≡ true → q ≡ false
only_one a b true e h = absurd (not_both a b h e)
only_one a b false e h = refl

not-back : (a b : Entry) → is_before a b ≡ true → is_before b a ≡ false
not-back a b h = only_one a b (is_before b a) refl h

itself : (a : Entry) (q : Bool) → is_before a a ≡ q → q ≡ false
itself a true e = absurd (not_both a a e e)
itself a false e = refl

-- what is before an entry is before all that aren't before that entry
with_not : (a b c : Entry) → Before a b → (b.date < c.date) ⊎ ((c.date ≡ b.date) × (b.place ≤ c.place)) → Before a c
with_not a b c (inl h) (inl k) = inl (omega arith)
with_not a b c (inl h) (inr k) = inl (omega (arith, k.0))
with_not a b c (inr h) (inl k) = inl (omega (arith, h.0))
with_not a b c (inr h) (inr k) = inr (h.0 ∙ sym k.0, omega (arith, h.1, k.1))

before-not : (a b c : Entry) → is_before a b ≡ true → is_before c b ≡ false → is_before a c ≡ true
before-not a b c h k = before_is a c (with_not a b c (before-of a b h) (not-before c b k))

-- an entry put in its place

past : (e x : Entry) (xs : List Entry) → is_before e x ≡ true → with_entry e (x ∷ xs) ≡ x ∷ with_entry e xs
past e x xs h = ap (λ q. if q then x ∷ with_entry e xs else e ∷ x ∷ xs) h

here : (e x : Entry) (xs : List Entry) → is_before e x ≡ false → with_entry e (x ∷ xs) ≡ e ∷ x ∷ xs
here e x xs h = ap (λ q. if q then x ∷ with_entry e xs else e ∷ x ∷ xs) h

-- two next to each other, in front of the rest
in_front : (x y : Entry) (rest : List Entry) (p : Bool) → is_before x y ≡ p → (x.place ≡ y.place → ⊥)
    → (if p then y ∷ x ∷ rest else x ∷ y ∷ rest) ≡ (if is_before y x then x ∷ y ∷ rest else y ∷ x ∷ rest)
in_front x y rest true e other = sym (ap (λ q. if q then x ∷ y ∷ rest else y ∷ x ∷ rest) (not-back x y e))
in_front x y rest false e other = sym (ap (λ q. if q then x ∷ y ∷ rest else y ∷ x ∷ rest) (before-apart x y other e))

-- the order in which two are put there doesn't matter
pub placed-both : (x y : Entry) (zs : List Entry) → (x.place ≡ y.place → ⊥) → with_entry x (with_entry y zs) ≡ with_entry y (with_entry x zs)
placed-both x y [] other = in_front x y [] (is_before x y) refl other
placed-both x y (z ∷ zs) other = by (is_before x z) (is_before y z) (placed-both x y zs other) refl refl
  where
    by : (p q : Bool) → with_entry x (with_entry y zs) ≡ with_entry y (with_entry x zs) → is_before x z ≡ p → is_before y z ≡ q → with_entry x (with_entry y (z ∷ zs)) ≡ with_entry y (with_entry x (z ∷ zs))
    by true true rest e f =
        ap (with_entry x) (past y z zs f) ∙ past x z (with_entry y zs) e ∙ ap (λ l. z ∷ l) rest
        ∙ sym (past y z (with_entry x zs) f) ∙ sym (ap (with_entry y) (past x z zs e))
    by true false rest e f =
        ap (with_entry x) (here y z zs f) ∙ past x y (z ∷ zs) (before-not x z y e f) ∙ ap (λ l. y ∷ l) (past x z zs e)
        ∙ sym (here y z (with_entry x zs) f) ∙ sym (ap (with_entry y) (past x z zs e))
    by false true rest e f =
        ap (with_entry x) (past y z zs f) ∙ here x z (with_entry y zs) e ∙ ap (λ l. x ∷ l) (sym (past y z zs f))
        ∙ sym (past y x (z ∷ zs) (before-not y z x f e)) ∙ sym (ap (with_entry y) (here x z zs e))
    by false false rest e f =
        ap (with_entry x) (here y z zs f) ∙ ap (λ l. if is_before x y then y ∷ l else x ∷ y ∷ z ∷ zs) (here x z zs e)
        ∙ in_front x y (z ∷ zs) (is_before x y) refl other
        ∙ sym (ap (λ l. if is_before y x then x ∷ l else y ∷ x ∷ z ∷ zs) (here y z zs f)) ∙ sym (ap (with_entry y) (here x z zs e))

-- each entry

all-placed : (P : Entry → Type 0) (e : Entry) (xs : List Entry) → P e → AllByRecursion P xs → AllByRecursion P (with_entry e xs)
all-placed P e [] p h = (p, tt)
all-placed P e (x ∷ xs) p h = by (is_before e x) (all-placed P e xs p h.1)
  where
    by : (q : Bool) → AllByRecursion P (with_entry e xs) → AllByRecursion P (if q then x ∷ with_entry e xs else e ∷ x ∷ xs)
    by true rest = (h.0, rest)
    by false rest = (p, h)

from-placed : (P : Entry → Type 0) (e : Entry) (xs : List Entry) → AllByRecursion P (with_entry e xs) → P e × AllByRecursion P xs
from-placed P e [] h = h
from-placed P e (x ∷ xs) h = by (is_before e x) (from-placed P e xs) h
  where
    by : (q : Bool) → (AllByRecursion P (with_entry e xs) → P e × AllByRecursion P xs) → AllByRecursion P (if q then x ∷ with_entry e xs else e ∷ x ∷ xs) → P e × AllByRecursion P (x ∷ xs)
    by true rest h = ((rest h.1).0, (h.0, (rest h.1).1))
    by false rest h = h

all-mapped : (P Q : Entry → Type 0) (xs : List Entry) → ((e : Entry) → P e → Q e) → AllByRecursion P xs → AllByRecursion Q xs
all-mapped P Q [] f h = tt
all-mapped P Q (x ∷ xs) f h = (f x h.0, all-mapped P Q xs f h.1)

at_place : (P : Entry → Type 0) (n m t : ℕ) → n ≡ m → P (entry n t) → P (entry m t)
at_place P n m t e h = subst (λ k. P (entry k t)) e h

-- what holds of each date with its place holds of each entry, and the other way round
pub all-from : (P : Entry → Type 0) (n : ℕ) (dates : List (Option ℕ)) → ((k t : ℕ) → slice_index_or dates k None ≡ Some t → P (entry (n + k) t)) → AllByRecursion P (agenda_from n dates)
all-from P n [] h = tt
all-from P n (None ∷ dates) h = all-from P (n + 1) dates (λ k t e. at_place P (n + suc k) (n + 1 + k) t (omega arith) (h (suc k) t e))
all-from P n (Some date ∷ dates) h =
    all-placed P (entry n date) (agenda_from (n + 1) dates) (at_place P (n + 0) n date (omega arith) (h 0 date refl))
    (all-from P (n + 1) dates (λ k t e. at_place P (n + suc k) (n + 1 + k) t (omega arith) (h (suc k) t e)))

pub from-all : (P : Entry → Type 0) (n : ℕ) (dates : List (Option ℕ)) → AllByRecursion P (agenda_from n dates) → (k t : ℕ) → slice_index_or dates k None ≡ Some t → P (entry (n + k) t)
from-all P n [] h k t e = absurd (none-some t e)
from-all P n (None ∷ dates) h zero t e = absurd (none-some t e)
from-all P n (None ∷ dates) h (suc k) t e = at_place P (n + 1 + k) (n + suc k) t (omega arith) (from-all P (n + 1) dates h k t e)
from-all P n (Some date ∷ dates) h zero t e =
    at_place P n (n + 0) t (omega arith) (subst (λ d. P (entry n d)) (same_Some date t e) (from-placed P (entry n date) (agenda_from (n + 1) dates) h).0)
from-all P n (Some date ∷ dates) h (suc k) t e =
    at_place P (n + 1 + k) (n + suc k) t (omega arith) (from-all P (n + 1) dates (from-placed P (entry n date) (agenda_from (n + 1) dates) h).1 k t e)

-- the agenda is ordered

ordered-placed : (e : Entry) (xs : List Entry) → AllByRecursion (λ x. e.place ≡ x.place → ⊥) xs → IsOrdered xs → IsOrdered (with_entry e xs)
ordered-placed e [] apart h = (tt, tt)
ordered-placed e (x ∷ xs) apart h = by (is_before e x) refl (ordered-placed e xs apart.1 h.1)
  where
    by : (q : Bool) → is_before e x ≡ q → IsOrdered (with_entry e xs) → IsOrdered (if q then x ∷ with_entry e xs else e ∷ x ∷ xs)
    by true f rest = (all-placed (λ y. is_before y x ≡ true) e xs f h.0, rest)
    by false f rest =
        let before : is_before x e ≡ true = before-apart e x apart.0 f in
        ((before, all-mapped (λ y. is_before y x ≡ true) (λ y. is_before y e ≡ true) xs (λ y k. before-trans y x e k before) h.0), h)

pub ordered-from : (n : ℕ) (dates : List (Option ℕ)) → IsOrdered (agenda_from n dates)
ordered-from n [] = tt
ordered-from n (None ∷ dates) = ordered-from (n + 1) dates
ordered-from n (Some date ∷ dates) =
    ordered-placed (entry n date) (agenda_from (n + 1) dates) (all-from (λ x. n ≡ x.place → ⊥) (n + 1) dates (λ k t e same. omega (arith, same))) (ordered-from (n + 1) dates)

-- a date is written where there was none

moved : (n m t : ℕ) (xs : List Entry) → n ≡ m → with_entry (entry n t) xs ≡ with_entry (entry m t) xs
moved n m t xs e = ap (λ k. with_entry (entry k t) xs) e

pub from-written : (n : ℕ) (dates : List (Option ℕ)) (k t : ℕ) → slice_index_or dates k None ≡ None → k < length dates
    → agenda_from n (slice_set dates k (Some t)) ≡ with_entry (entry (n + k) t) (agenda_from n dates)
from-written n [] k t e inside = absurd (omega arith)
from-written n (None ∷ dates) zero t e inside = moved n (n + 0) t (agenda_from (n + 1) dates) (omega arith)
from-written n (Some date ∷ dates) zero t e inside = absurd (none-some date (sym e))
from-written n (None ∷ dates) (suc k) t e inside =
    from-written (n + 1) dates k t e (omega arith) ∙ moved (n + 1 + k) (n + suc k) t (agenda_from (n + 1) dates) (omega arith)
from-written n (Some date ∷ dates) (suc k) t e inside =
    ap (with_entry (entry n date)) (from-written (n + 1) dates k t e (omega arith))
    ∙ placed-both (entry n date) (entry (n + 1 + k) t) (agenda_from (n + 1) dates) (λ same. omega (arith, same))
    ∙ moved (n + 1 + k) (n + suc k) t (with_entry (entry n date) (agenda_from (n + 1) dates)) (omega arith)

-- the place of an entry

pub place-range : (e : Entry) (xs : List Entry) → place_of e xs ≤ length xs
place-range e [] = omega arith
place-range e (x ∷ xs) = by (is_before e x) (place-range e xs)
  where
    by : (q : Bool) → place_of e xs ≤ length xs → (if q then suc (place_of e xs) else 0) ≤ suc (length xs)
    by true h = omega arith
    by false h = omega arith

pub placed-there : (e : Entry) (xs : List Entry) → insert xs (place_of e xs) e ≡ with_entry e xs
placed-there e [] = refl
placed-there e (x ∷ xs) = by (is_before e x) (placed-there e xs)
  where
    by : (q : Bool) → insert xs (place_of e xs) e ≡ with_entry e xs → insert (x ∷ xs) (if q then suc (place_of e xs) else 0) e ≡ (if q then x ∷ with_entry e xs else e ∷ x ∷ xs)
    by true h = ap (λ l. x ∷ l) h
    by false h = refl

pub place-within : (e : Entry) (xs : List Entry) → place_of e (with_entry e xs) < length (with_entry e xs)
place-within e [] = let first : is_before e e ≡ false = itself e (is_before e e) refl in omega (arith, ap {B = ℕ} (λ q. if q then 1 else 0) first)
place-within e (x ∷ xs) = by (is_before e x) refl (place-within e xs)
  where
    by : (q : Bool) → is_before e x ≡ q → place_of e (with_entry e xs) < length (with_entry e xs)
        → place_of e (if q then x ∷ with_entry e xs else e ∷ x ∷ xs) < length (if q then x ∷ with_entry e xs else e ∷ x ∷ xs)
    by true f h = omega (arith, h, ap {B = ℕ} (λ q. if q then suc (place_of e (with_entry e xs)) else 0) f)
    by false f h = omega (arith, ap {B = ℕ} (λ q. if q then suc (place_of e (x ∷ xs)) else 0) (itself e (is_before e e) refl))

-- put there and taken away again
pub taken-again : (e : Entry) (xs : List Entry) → remove (with_entry e xs) (place_of e (with_entry e xs)) ≡ xs
taken-again e [] = ap (λ q. remove (e ∷ []) (if q then 1 else 0)) (itself e (is_before e e) refl)
taken-again e (x ∷ xs) = by (is_before e x) refl (taken-again e xs)
  where
    by : (q : Bool) → is_before e x ≡ q → remove (with_entry e xs) (place_of e (with_entry e xs)) ≡ xs
        → remove (if q then x ∷ with_entry e xs else e ∷ x ∷ xs) (place_of e (if q then x ∷ with_entry e xs else e ∷ x ∷ xs)) ≡ x ∷ xs
    by true f h = ap (λ q. remove (x ∷ with_entry e xs) (if q then suc (place_of e (with_entry e xs)) else 0)) f ∙ ap (λ l. x ∷ l) h
    by false f h = ap (λ q. remove (e ∷ x ∷ xs) (if q then suc (place_of e (x ∷ xs)) else 0)) (itself e (is_before e e) refl)

-- what falls due after it is before its place, and nothing else is
all-at : (P : Entry → Type 0) (xs : List Entry) (k : ℕ) (d : Entry) → AllByRecursion P xs → k < length xs → P (slice_index_or xs k d)
all-at P [] k d h inside = absurd (omega arith)
all-at P (x ∷ xs) zero d h inside = h.0
all-at P (x ∷ xs) (suc k) d h inside = all-at P xs k d h.1 (omega arith)

pub place-above : (e : Entry) (xs : List Entry) (k : ℕ) (d : Entry) → IsOrdered xs → k < length xs → is_before e (slice_index_or xs k d) ≡ true → k < place_of e xs
place-above e [] k d h inside before = absurd (omega arith)
place-above e (x ∷ xs) zero d h inside before = omega (arith, ap {B = ℕ} (λ q. if q then suc (place_of e xs) else 0) before)
place-above e (x ∷ xs) (suc k) d h inside before =
    let first : is_before e x ≡ true = before-trans e (slice_index_or xs k d) x before (all-at (λ y. is_before y x ≡ true) xs k d h.0 (omega arith)) in
    omega (arith, place-above e xs k d h.1 (omega arith) before, ap {B = ℕ} (λ q. if q then suc (place_of e xs) else 0) first)

pub place-below : (e : Entry) (xs : List Entry) (k : ℕ) (d : Entry) → k < length xs → is_before e (slice_index_or xs k d) ≡ false → place_of e xs ≤ k
place-below e [] k d inside after = absurd (omega arith)
place-below e (x ∷ xs) zero d inside after = omega (arith, ap {B = ℕ} (λ q. if q then suc (place_of e xs) else 0) after)
place-below e (x ∷ xs) (suc k) d inside after = by (is_before e x) (place-below e xs k d (omega arith) after)
  where
    by : (q : Bool) → place_of e xs ≤ k → (if q then suc (place_of e xs) else 0) ≤ suc k
    by true h = omega arith
    by false h = omega arith

-- what falls due first

first-more : (x y : Entry) (ys : List Entry) → first (x ∷ y ∷ ys) ≡ first (y ∷ ys)
first-more x y ys =
    let front : length (x ∷ y ∷ ys) - 1 ≡ suc (length ys) = omega arith in let rest : length (y ∷ ys) - 1 ≡ length ys = omega arith in
    ap (slice_get (x ∷ y ∷ ys)) front ∙ sym (ap (slice_get (y ∷ ys)) rest)

pub first-none : (xs : List Entry) → first xs ≡ None → xs ≡ []
first-none [] e = refl
first-none (x ∷ []) e = absurd (cc)
first-none (x ∷ y ∷ ys) e = absurd (some_there (y ∷ ys) (first-none (y ∷ ys) (sym (first-more x y ys) ∙ e)) refl)
  where
    some_there : (zs : List Entry) → zs ≡ [] → y ∷ ys ≡ zs → ⊥
    some_there zs e f = cc

pub all-first : (P : Entry → Type 0) (xs : List Entry) (e : Entry) → AllByRecursion P xs → first xs ≡ Some e → P e
all-first P [] e h is = absurd (cc)
all-first P (x ∷ []) e h is = let same : x ≡ e = cc in subst P same h.0
all-first P (x ∷ y ∷ ys) e h is = all-first P (y ∷ ys) e h.1 (sym (first-more x y ys) ∙ is)

-- none of the others falls due before it
pub first-least : (xs : List Entry) (e : Entry) → IsOrdered xs → first xs ≡ Some e → AllByRecursion (λ x. is_before x e ≡ false) xs
first-least [] e h is = tt
first-least (x ∷ []) e h is = let same : x ≡ e = cc in (subst (λ y. is_before x y ≡ false) same (itself x (is_before x x) refl), tt)
first-least (x ∷ y ∷ ys) e h is =
    let there : first (y ∷ ys) ≡ Some e = sym (first-more x y ys) ∙ is in
    (not-back e x (all-first (λ z. is_before z x ≡ true) (y ∷ ys) e h.0 there), first-least (y ∷ ys) e h.1 there)

-- it is taken off the end
pub first-taken : (xs : List Entry) (e : Entry) → IsOrdered xs → first xs ≡ Some e → take (length xs - 1) xs ≡ remove xs (place_of e xs)
first-taken [] e h is = absurd (cc)
first-taken (x ∷ []) e h is =
    let same : x ≡ e = cc in
    sym (subst (λ y. remove (x ∷ []) (place_of y (x ∷ [])) ≡ []) same (ap (λ q. remove (x ∷ []) (if q then 1 else 0)) (itself x (is_before x x) refl)))
first-taken (x ∷ y ∷ ys) e h is =
    let there : first (y ∷ ys) ≡ Some e = sym (first-more x y ys) ∙ is in
    let behind : is_before e x ≡ true = all-first (λ z. is_before z x ≡ true) (y ∷ ys) e h.0 there in
    let front : length (x ∷ y ∷ ys) - 1 ≡ suc (length (y ∷ ys) - 1) = omega arith in
    ap (λ n. take n (x ∷ y ∷ ys)) front ∙ ap (λ l. x ∷ l) (first-taken (y ∷ ys) e h.1 there)
    ∙ sym (ap (λ q. remove (x ∷ y ∷ ys) (if q then suc (place_of e (y ∷ ys)) else 0)) behind)

-- how many there are

length-placed : (e : Entry) (xs : List Entry) → length (with_entry e xs) ≡ length xs + 1
length-placed e [] = omega arith
length-placed e (x ∷ xs) = by (is_before e x) (length-placed e xs)
  where
    by : (q : Bool) → length (with_entry e xs) ≡ length xs + 1 → length (if q then x ∷ with_entry e xs else e ∷ x ∷ xs) ≡ suc (length xs) + 1
    by true h = omega (arith, h)
    by false h = omega arith

length-from : (n : ℕ) (dates : List (Option ℕ)) → length (agenda_from n dates) ≤ length dates
length-from n [] = omega arith
length-from n (None ∷ dates) = omega (arith, length-from (n + 1) dates)
length-from n (Some date ∷ dates) = omega (arith, length-from (n + 1) dates, length-placed (entry n date) (agenda_from (n + 1) dates))

pub from-none : (n : ℕ) (dates : List (Option ℕ)) → ((k : ℕ) → slice_index_or dates k None ≡ None) → agenda_from n dates ≡ []
from-none n [] h = refl
from-none n (None ∷ dates) h = from-none (n + 1) dates (λ k. h (suc k))
from-none n (Some date ∷ dates) h = absurd (none-some date (sym (h 0)))

-- the agenda without one place, and with a date of that place again

emptied : (dates : List (Option ℕ)) (p : ℕ) → p < length dates → slice_index_or (slice_set dates p None) p None ≡ None
emptied dates p inside = get_or-set_same dates p None None inside

written : (dates : List (Option ℕ)) (p t : ℕ) → p < length dates → agenda_from 0 (slice_set dates p (Some t)) ≡ with_entry (entry p t) (agenda_from 0 (slice_set dates p None))
written dates p t inside =
    let rest : List (Option ℕ) = slice_set dates p None in
    let there : p < length rest = omega (arith, inside, length-set dates p None) in
    sym (ap (agenda_from 0) (set-set dates p None (Some t))) ∙ from-written 0 rest p t (emptied dates p inside) there ∙ moved (0 + p) p t (agenda_from 0 rest) (omega arith)

parted : (dates : List (Option ℕ)) (p t : ℕ) → slice_index_or dates p None ≡ Some t → agenda_from 0 dates ≡ with_entry (entry p t) (agenda_from 0 (slice_set dates p None))
parted dates p t e =
    ap (agenda_from 0) (sym (set-get_or dates p None) ∙ ap (slice_set dates p) e) ∙ written dates p t (within dates p t e)

pub without-place : (dates : List (Option ℕ)) (p : ℕ) (date : Option ℕ) → slice_index_or dates p None ≡ date → without_date p date (agenda_from 0 dates) ≡ agenda_from 0 (slice_set dates p None)
without-place dates p None e = ap (agenda_from 0) (sym (set-get_or dates p None) ∙ ap (slice_set dates p) e)
without-place dates p (Some t) e =
    ap (λ l. remove l (place_of (entry p t) l)) (parted dates p t e) ∙ taken-again (entry p t) (agenda_from 0 (slice_set dates p None))

pub place-there : (dates : List (Option ℕ)) (p : ℕ) (date : Option ℕ) → slice_index_or dates p None ≡ date
    → IfSome date (λ t. place_of (entry p t) (agenda_from 0 dates) < length (agenda_from 0 dates))
place-there dates p None e = tt
place-there dates p (Some t) e =
    subst (λ l. place_of (entry p t) l < length l) (sym (parted dates p t e)) (place-within (entry p t) (agenda_from 0 (slice_set dates p None)))

pub with-place : (dates : List (Option ℕ)) (p : ℕ) (date : Option ℕ) → p < length dates → with_date p date (agenda_from 0 (slice_set dates p None)) ≡ agenda_from 0 (slice_set dates p date)
with-place dates p None inside = refl
with-place dates p (Some t) inside = sym (written dates p t inside)

pub few-without : (dates : List (Option ℕ)) (p : ℕ) → p < length dates → length (agenda_from 0 (slice_set dates p None)) < length dates
few-without dates p inside =
    omega (
      arith,
      ap length (written dates p 0 inside),
      length-placed (entry p 0) (agenda_from 0 (slice_set dates p None)),
      length-from 0 (slice_set dates p (Some 0)),
      length-set dates p (Some 0),
    )
