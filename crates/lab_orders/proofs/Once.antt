-- Each run is in the list of all runs of so many steps once.
use Rattle.std.proofs.Common.{◌≡◌, ◌≢◌, ℕ, zero, suc, ◌<◌, List, [], ◌∷◌, ◌++◌, length, get_or, refl, sym, ◌∙◌, ap, arith, length-append}
use Rattle.std.specs.Prelude.{All, AllPairs, Option, Some, None, option_map, filter_map, flat_map}
use Rattle.std.specs.List.{cons_option}
use Rattle.std.proofs.lemmas.List.{append_cancel_left}
use Rattle.std.proofs.lemmas.List.Elements.{All-nil, All-cons, All-head, All-tail, All-append}
use Rattle.std.proofs.lemmas.List.Kept.{AllPairs-cons}
use Rattle.std.proofs.lemmas.List.Quantifiers.{all_pairs_push}
use Rattle.lab_orders.specs.Machines.{Machine, Run, ran, numbers_below, longer_by, longer, runs}
use Rattle.lab_orders.proofs.EveryRun.{all_flat, all_below}

-- pairs of a list
pairs_none : {X : Type 0} (R : X → X → Type 0) → AllPairs R []
pairs_none R = λ i j d lt h. absurd (omega arith)

pairs_head : {X : Type 0} (R : X → X → Type 0) (x : X) (xs : List X) → AllPairs R (x ∷ xs) → All (R x) xs
pairs_head R x xs pairs = λ k d h. pairs 0 (suc k) d (omega arith) (omega arith)

pairs_tail : {X : Type 0} (R : X → X → Type 0) (x : X) (xs : List X) → AllPairs R (x ∷ xs) → AllPairs R xs
pairs_tail R x xs pairs = λ i j d lt h. pairs (suc i) (suc j) d (omega arith) (omega arith)

pairs_append : {X : Type 0} (R : X → X → Type 0) (xs ys : List X) → AllPairs R xs → AllPairs R ys → All (λ x. All (R x) ys) xs → AllPairs R (xs ++ ys)
pairs_append R [] ys one other cross = other
pairs_append R (x ∷ xs) ys one other cross =
    AllPairs-cons R x (xs ++ ys) (All-append (R x) xs ys (pairs_head R x xs one) (All-head (λ z. All (R z) ys) x xs cross))
    (pairs_append R xs ys (pairs_tail R x xs one) other (All-tail (λ z. All (R z) ys) x xs cross))

pairs_flat : {X Y : Type 0} (Q : X → X → Type 0) (R : Y → Y → Type 0) (f : X → List Y) → ((x z : X) → Q x z → All (λ a. All (R a) (f z)) (f x))
    → ((x : X) → AllPairs R (f x)) → (xs : List X) → AllPairs Q xs → AllPairs R (flat_map f xs)
pairs_flat Q R f apart each [] pairs = pairs_none R
pairs_flat Q R f apart each (x ∷ xs) pairs =
    pairs_append R (f x) (flat_map f xs) (each x) (pairs_flat Q R f apart each xs (pairs_tail Q x xs pairs))
    (λ k d h.
    all_flat (λ z. All (R (get_or (f x) k d)) (f z)) (R (get_or (f x) k d)) f (λ z all. all) xs
    (λ i e lt. apart x (get_or xs i e) (pairs_head Q x xs pairs i e lt) k d h))

-- two lists that are equal stay so without their last elements
push_same : (xs ys : List ℕ) (a b : ℕ) → xs ++ a ∷ [] ≡ ys ++ b ∷ [] → xs ≡ ys
push_same [] [] a b e = refl
push_same [] (y ∷ ys) a b e = absurd (omega (arith, ap length e, length-append ys (b ∷ [])))
push_same (x ∷ xs) [] a b e = absurd (omega (arith, ap length e, length-append xs (a ∷ [])))
push_same (x ∷ xs) (y ∷ ys) a b e =
    let rest : xs ++ a ∷ [] ≡ ys ++ b ∷ [] = cc in
    let heads : x ≡ y = cc in
    cc (push_same xs ys a b rest)

push_last : (xs : List ℕ) (a b : ℕ) → xs ++ a ∷ [] ≡ xs ++ b ∷ [] → a ≡ b
push_last xs a b e = let last : ◌≡◌ {A = List ℕ} (a ∷ []) (b ∷ []) = append_cancel_left xs (a ∷ []) (b ∷ []) e in cc

increasing : (n : ℕ) → AllPairs (λ c d. c < d) (numbers_below n)
increasing zero = pairs_none (λ c d. c < d)
increasing (suc n) = all_pairs_push (λ c d. c < d) (numbers_below n) n (increasing n) (λ k d h. all_below n k d h)

module _ {S : Type 0} (m : Machine S) where
  abbrev AreApart : Run S → Run S → Type 0
  AreApart r q = r.order ≢ q.order

  -- an order of one step more, by a caller of which this is known
  abbrev IsBehind : (ℕ → Type 0) → Run S → Run S → Type 0
  IsBehind P r a = (c : ℕ) × P c × (a.order ≡ r.order ++ c ∷ [])

  one_behind : (P : ℕ → Type 0) (r : Run S) (c : ℕ) (o : Option S) (rest : List (Run S)) → P c → All (IsBehind P r) rest
      → All (IsBehind P r) (cons_option (option_map (ran (r.order ++ c ∷ [])) o) rest)
  one_behind P r c None rest known all = all
  one_behind P r c (Some t) rest known all = All-cons (IsBehind P r) (ran (r.order ++ c ∷ []) t) rest (c, known, refl) all

  all_behind : (P : ℕ → Type 0) (r : Run S) (cs : List ℕ) → All P cs → All (IsBehind P r) (filter_map (longer_by m r) cs)
  all_behind P r [] known = All-nil (IsBehind P r)
  all_behind P r (c ∷ cs) known =
      one_behind P r c (m.go r.at c) (filter_map (longer_by m r) cs) (All-head P c cs known) (all_behind P r cs (All-tail P c cs known))

  one_apart : (r : Run S) (c : ℕ) (o : Option S) (rest : List (Run S)) → All (IsBehind (λ d. c < d) r) rest → AllPairs AreApart rest
      → AllPairs AreApart (cons_option (option_map (ran (r.order ++ c ∷ [])) o) rest)
  one_apart r c None rest behind pairs = pairs
  one_apart r c (Some t) rest behind pairs =
      AllPairs-cons AreApart (ran (r.order ++ c ∷ []) t) rest
      (λ k d h same.
      let other = behind k d h in
      let e : c ≡ other.0 = push_last r.order c other.0 (same ∙ other.2) in
      absurd (omega (arith, e, other.1)))
      pairs

  all_apart : (r : Run S) (cs : List ℕ) → AllPairs (λ c d. c < d) cs → AllPairs AreApart (filter_map (longer_by m r) cs)
  all_apart r [] pairs = pairs_none AreApart
  all_apart r (c ∷ cs) pairs =
      one_apart r c (m.go r.at c) (filter_map (longer_by m r) cs) (all_behind (λ d. c < d) r cs (pairs_head (λ e d. e < d) c cs pairs))
      (all_apart r cs (pairs_tail (λ e d. e < d) c cs pairs))

  stay_apart : (r q : Run S) → AreApart r q → All (λ a. All (AreApart a) (longer m q)) (longer m r)
  stay_apart r q apart = λ k d h i e lt same.
      let one = all_behind (λ c. c < m.callers) r (numbers_below m.callers) (all_below m.callers) k d h in
      let other = all_behind (λ c. c < m.callers) q (numbers_below m.callers) (all_below m.callers) i e lt in
      apart (push_same r.order q.order one.0 other.0 (sym one.2 ∙ (same ∙ other.2)))

  pub runs_are_apart : (s : S) (k : ℕ) → AllPairs AreApart (runs m s k)
  unfolding runs
  runs_are_apart s zero = AllPairs-cons AreApart (ran [] s) [] (All-nil (AreApart (ran [] s))) (pairs_none AreApart)
  runs_are_apart s (suc k) = pairs_flat AreApart AreApart (longer m) stay_apart (λ r. all_apart r (numbers_below m.callers) (increasing m.callers)) (runs m s k) (runs_are_apart s k)
