-- The first of the best: found one by one, it is the first that may go before each.
use Rattle.std.proofs.Common.{◌≡◌, ◌⊎◌, inl, inr, Bool, true, false, cond, ◌&&◌, List, [], ◌∷◌, ◌++◌, Option, Some, None, if◌then◌else◌, refl, sym, ap, ◌∙◌, subst}
use Rattle.std.specs.List.{list_all, find}
use Rattle.std.proofs.Math.Bool.{and-true}
use Rattle.evl_base.specs.Firsts.{best, better}

module _ {A : Type 0} where
  either_by : (p : Bool) (a b d : A) → (if p then Some a else Some b) ≡ Some d → (Some a ≡ Some d) ⊎ (Some b ≡ Some d)
  either_by true a b d e = inl e
  either_by false a b d e = inr e

  never_none : (p : Bool) (a b : A) → (if p then Some a else Some b) ≡ None → ⊥
  never_none true a b e = cc
  never_none false a b e = cc

  find_same : (p q : A → Bool) → ((d : A) → p d ≡ q d) → (xs : List A) → find p xs ≡ find q xs
  find_same p q h [] = refl
  find_same p q h (x ∷ xs) = ap (λ b. cond b (Some x) (find p xs)) (h x) ∙ ap (cond (q x) (Some x)) (find_same p q h xs)

module _ {A : Type 0} (before : A → A → Bool) where
  -- what is found is one of the two
  pub either : (a b : Option A) (d : A) → better before a b ≡ Some d → (a ≡ Some d) ⊎ (b ≡ Some d)
  either None b d e = inr e
  either (Some a) None d e = inl e
  either (Some a) (Some b) d e = either_by (before a b) a b d e

  never : (x : A) (o : Option A) → better before (Some x) o ≡ None → ⊥
  never x None e = cc
  never x (Some k) e = never_none (before x k) x k e

  -- none is found only where there is none
  pub none_is : (xs : List A) → best before xs ≡ None → xs ≡ []
  none_is [] e = refl
  none_is (x ∷ xs) e = absurd (never x (best before xs) e)

  better-none : (a : Option A) → better before a None ≡ a
  better-none None = refl
  better-none (Some a) = refl

  module _ (itself : (a : A) → before a a ≡ true)
      (both : (a b c : A) → before a b ≡ true → before b c ≡ true → before a c ≡ true)
      (neither : (a b c : A) → before a b ≡ false → before b c ≡ false → before a c ≡ false) where
    assoc_by : (a b c : A) (p q : Bool) → before a b ≡ p → before b c ≡ q
        → better before (if p then Some a else Some b) (Some c) ≡ better before (Some a) (if q then Some b else Some c)
    assoc_by a b c true true e f =
        ap (λ r. if r then Some a else Some c) (both a b c e f) ∙ sym (ap (λ r. if r then Some a else Some b) e)
    assoc_by a b c true false e f = refl
    assoc_by a b c false true e f = ap (λ r. if r then Some b else Some c) f ∙ sym (ap (λ r. if r then Some a else Some b) e)
    assoc_by a b c false false e f =
        ap (λ r. if r then Some b else Some c) f ∙ sym (ap (λ r. if r then Some a else Some c) (neither a b c e f))

    better-assoc : (a b c : Option A) → better before (better before a b) c ≡ better before a (better before b c)
    better-assoc None b c = refl
    better-assoc (Some a) None c = refl
    better-assoc (Some a) (Some b) None = better-none (better before (Some a) (Some b))
    better-assoc (Some a) (Some b) (Some c) = assoc_by a b c (before a b) (before b c) refl refl

    -- of two lists, the better of what is found in each
    pub best-append : (xs ys : List A) → best before (xs ++ ys) ≡ better before (best before xs) (best before ys)
    best-append [] ys = refl
    best-append (x ∷ xs) ys = ap (better before (Some x)) (best-append xs ys) ∙ sym (better-assoc (Some x) (best before xs) (best before ys))

    -- where x may go before k, to go before both is to go before x
    both_first : (d x k : A) → before x k ≡ true → (before d x && before d k) ≡ before d x
    both_first d x k e =
        let by : (p q : Bool) → before d x ≡ p → before d k ≡ q → (p && q) ≡ p = λ p q f g. elim p as (λ p. before d x ≡ p → (p && q) ≡ p) [
          | true ↦ λ f. sym g ∙ both d x k f e
          | false ↦ λ f. refl
        ] f in
        by (before d x) (before d k) refl refl

    both_second : (d x k : A) → before x k ≡ false → (before d x && before d k) ≡ before d k
    both_second d x k e =
        let by : (p q : Bool) → before d x ≡ p → before d k ≡ q → (p && q) ≡ q = λ p q f g. elim p as (λ p. before d x ≡ p → (p && q) ≡ q) [
          | true ↦ λ f. refl
          | false ↦ λ f. sym (sym g ∙ neither d x k f e)
        ] f in
        by (before d x) (before d k) refl refl

    all_step : (d x k m : A) (p : Bool) → before x k ≡ p → (if p then Some x else Some k) ≡ Some m → (before d x && before d k) ≡ before d m
    all_step d x k m true e f = both_first d x k e ∙ (let is : x ≡ m = cc in ap (before d) is)
    all_step d x k m false e f = both_second d x k e ∙ (let is : k ≡ m = cc in ap (before d) is)

    -- to go before each is to go before the best
    pub all_best : (d : A) (xs : List A) (m : A) → best before xs ≡ Some m → list_all (before d) xs ≡ before d m
    all_best d [] m e = absurd (cc)
    all_best d (x ∷ xs) m e =
        elim (best before xs) as (λ o. best before xs ≡ o → better before (Some x) o ≡ Some m → (before d x && list_all (before d) xs) ≡ before d m) [
          | None ↦ λ is f. let same : x ≡ m = cc in
              ap (λ l. before d x && list_all (before d) l) (none_is xs is) ∙ and-true (before d x) ∙ ap (before d) same
          | Some k ↦ λ is f. ap (λ b. before d x && b) (all_best d xs k is) ∙ all_step d x k m (before x k) refl f
        ] refl e

    find_step : (xs : List A) (x k m : A) (p : Bool) → before x k ≡ p → (if p then Some x else Some k) ≡ Some m
        → find (λ d. before d k) xs ≡ Some k → cond (before x m) (Some x) (find (λ d. before d m) xs) ≡ Some m
    find_step xs x k m true e f h =
        let is : x ≡ m = cc in
        subst (λ y. cond (before x y) (Some x) (find (λ d. before d y) xs) ≡ Some y) is (ap (λ b. cond b (Some x) (find (λ d. before d x) xs)) (itself x))
    find_step xs x k m false e f h =
        let is : k ≡ m = cc in
        subst (λ y. cond (before x y) (Some x) (find (λ d. before d y) xs) ≡ Some y) is (ap (λ b. cond b (Some x) (find (λ d. before d k) xs)) e ∙ h)

    find_best : (xs : List A) (m : A) → best before xs ≡ Some m → find (λ d. before d m) xs ≡ Some m
    find_best [] m e = e
    find_best (x ∷ xs) m e =
        elim (best before xs) as (λ o. best before xs ≡ o → better before (Some x) o ≡ Some m → cond (before x m) (Some x) (find (λ d. before d m) xs) ≡ Some m) [
          | None ↦ λ is f. let same : x ≡ m = cc in
              subst (λ y. cond (before x y) (Some x) (find (λ d. before d y) xs) ≡ Some y) same (ap (λ b. cond b (Some x) (find (λ d. before d x) xs)) (itself x))
          | Some k ↦ λ is f. find_step xs x k m (before x k) refl f (find_best xs k is)
        ] refl e

    -- the first that may go before each is what is found one by one
    pub first-best : (xs : List A) → find (λ d. list_all (before d) xs) xs ≡ best before xs
    first-best xs =
        elim (best before xs) as (λ o. best before xs ≡ o → find (λ d. list_all (before d) xs) xs ≡ o) [
          | None ↦ λ e. ap (λ l. find (λ d. list_all (before d) xs) l) (none_is xs e)
          | Some m ↦ λ e. find_same (λ d. list_all (before d) xs) (λ d. before d m) (λ d. all_best d xs m e) xs ∙ find_best xs m e
        ] refl
