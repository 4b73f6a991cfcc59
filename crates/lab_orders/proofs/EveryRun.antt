-- The runs of so many steps are just those.
use Rattle.std.proofs.Common.{◌≡◌, ℕ, zero, suc, ◌+◌, ◌<◌, ◌⊎◌, inl, inr, List, [], ◌∷◌, ◌++◌, length, refl, sym, ◌∙◌, ap, subst, arith, zero-add, add-zero, append_assoc, append-nil, length-append}
use Rattle.std.specs.Prelude.{All, Contains, Option, Some, None, option_map, filter_map, flat_map}
use Rattle.std.specs.List.{cons_option}
use Rattle.std.proofs.lemmas.List.Elements.{All-nil, All-cons, All-head, All-tail, All-push, All-append, All-weaker, All-contains, Contains-append_left, Contains-append_right}
use Rattle.std.proofs.lemmas.Option.{same_Some, option_and_then_some}
use Rattle.lab_orders.specs.Machines.{Machine, Run, ran, IsRun, numbers_below, led_along, longer_by, longer, runs}
use Rattle.lab_orders.proofs.Leads.{led_more}

pub all_flat : {X Y : Type 0} (P : X → Type 0) (Q : Y → Type 0) (f : X → List Y) → ((x : X) → P x → All Q (f x)) → (xs : List X) → All P xs → All Q (flat_map f xs)
all_flat P Q f h [] all = All-nil Q
all_flat P Q f h (x ∷ xs) all = All-append Q (f x) (flat_map f xs) (h x (All-head P x xs all)) (all_flat P Q f h xs (All-tail P x xs all))

in_flat : {X Y : Type 0} (f : X → List Y) (xs : List X) (x : X) (y : Y) → Contains xs x → Contains (f x) y → Contains (flat_map f xs) y
in_flat f [] x y (k, h, e) there = absurd (omega arith)
in_flat f (z ∷ xs) x y (zero, h, e) there = Contains-append_left (f z) (flat_map f xs) y (subst (λ v. Contains (f v) y) (sym e) there)
in_flat f (z ∷ xs) x y (suc k, h, e) there = Contains-append_right (f z) (flat_map f xs) y (in_flat f xs x y (k, omega arith, e) there)

behind : {Y : Type 0} (o : Option Y) (ys : List Y) (y : Y) → Contains ys y → Contains (cons_option o ys) y
behind None ys y there = there
behind (Some z) ys y there = Contains-append_right (z ∷ []) ys y there

in_mapped : {X Y : Type 0} (h : X → Option Y) (xs : List X) (x : X) (y : Y) → Contains xs x → h x ≡ Some y → Contains (filter_map h xs) y
in_mapped h [] x y (k, lt, e) made = absurd (omega arith)
in_mapped h (z ∷ xs) x y (zero, lt, e) made =
    subst (λ o. Contains (cons_option o (filter_map h xs)) y) (sym (ap h e ∙ made)) (0, omega arith, refl)
in_mapped h (z ∷ xs) x y (suc k, lt, e) made = behind (h z) (filter_map h xs) y (in_mapped h xs x y (k, omega arith, e) made)

pub all_below : (n : ℕ) → All (λ c. c < n) (numbers_below n)
all_below zero = All-nil (λ c. c < 0)
all_below (suc n) =
    All-push (λ c. c < suc n) (numbers_below n) n (All-weaker (λ c. c < n) (λ c. c < suc n) (λ c h. omega arith) (numbers_below n) (all_below n)) (omega arith)

pub below_or_at : (n c : ℕ) → c < suc n → (c < n) ⊎ (c ≡ n)
below_or_at zero zero h = inr refl
below_or_at zero (suc c) h = absurd (omega arith)
below_or_at (suc n) zero h = inl (omega arith)
below_or_at (suc n) (suc c) h =
    elim (below_or_at n c (omega arith)) as (λ v. (suc c < suc n) ⊎ (suc c ≡ suc n)) [ inl lt ↦ inl (omega arith) | inr e ↦ inr (ap suc e) ]

in_below : (n c : ℕ) → c < n → Contains (numbers_below n) c
in_below zero c h = absurd (omega arith)
in_below (suc n) c h =
    elim (below_or_at n c h) as (λ v. Contains (numbers_below n ++ n ∷ []) c) [
      | inl lt ↦ Contains-append_left (numbers_below n) (n ∷ []) c (in_below n c lt)
      | inr e ↦ Contains-append_right (numbers_below n) (n ∷ []) c (0, omega arith, sym e)
    ]

module _ {S : Type 0} (m : Machine S) (s : S) where
  -- a run of so many steps
  abbrev IsOf : ℕ → Run S → Type 0
  IsOf k r = IsRun m s r × (length r.order ≡ k)

  one_longer : (k : ℕ) (r : Run S) (c : ℕ) → IsOf k r → c < m.callers → (o : Option S) → m.go r.at c ≡ o → (rest : List (Run S)) → All (IsOf (suc k)) rest
      → All (IsOf (suc k)) (cons_option (option_map (ran (r.order ++ c ∷ [])) o) rest)
  one_longer k r c is lt None e rest all = all
  one_longer k r c is lt (Some t) e rest all =
      All-cons (IsOf (suc k)) (ran (r.order ++ c ∷ []) t) rest
      (record { by_callers = All-push (λ d. d < m.callers) r.order c is.0.by_callers lt; leads = led_more m s r.at t r.order c is.0.leads e }, omega (arith, length-append r.order (c ∷ []), is.1))
      all

  all_longer : (k : ℕ) (r : Run S) → IsOf k r → (cs : List ℕ) → All (λ c. c < m.callers) cs → All (IsOf (suc k)) (filter_map (longer_by m r) cs)
  all_longer k r is [] lt = All-nil (IsOf (suc k))
  all_longer k r is (c ∷ cs) lt =
      one_longer k r c is (All-head (λ d. d < m.callers) c cs lt) (m.go r.at c) refl (filter_map (longer_by m r) cs)
      (all_longer k r is cs (All-tail (λ d. d < m.callers) c cs lt))

  pub all_are_runs : (k : ℕ) → All (IsOf k) (runs m s k)
  unfolding runs
  all_are_runs zero =
      All-cons (IsOf 0) (ran [] s) [] (record { by_callers = All-nil (λ d. d < m.callers); leads = refl }, refl) (All-nil (IsOf 0))
  all_are_runs (suc k) =
      all_flat (IsOf k) (IsOf (suc k)) (longer m) (λ r is. all_longer k r is (numbers_below m.callers) (all_below m.callers)) (runs m s k) (all_are_runs k)

  -- one step more of a run that is there
  there_more : (k : ℕ) (r : Run S) (c : ℕ) (u : S) → Contains (runs m s k) r → c < m.callers → m.go r.at c ≡ Some u
      → Contains (runs m s (suc k)) (ran (r.order ++ c ∷ []) u)
  unfolding runs
  there_more k r c u there lt e =
      in_flat (longer m) (runs m s k) r (ran (r.order ++ c ∷ []) u) there
      (in_mapped (longer_by m r) (numbers_below m.callers) c (ran (r.order ++ c ∷ []) u) (in_below m.callers c lt)
      (ap (option_map (ran (r.order ++ c ∷ []))) e))

  same_run : (one other : List ℕ) (t u : S) → one ≡ other → t ≡ u → ran one t ≡ ran other u
  same_run one other t u e f = cc

  there_on : (rest : List ℕ) (k : ℕ) (r : Run S) (t : S) → Contains (runs m s k) r → All (λ c. c < m.callers) rest → led_along m r.at rest ≡ Some t
      → Contains (runs m s (k + length rest)) (ran (r.order ++ rest) t)
  there_on [] k r t there lt e =
      subst (λ n. Contains (runs m s n) (ran (r.order ++ []) t)) (sym (add-zero k))
      (subst (λ q. Contains (runs m s k) q) (sym (same_run (r.order ++ []) r.order t r.at (append-nil r.order) (sym (same_Some r.at t e)))) there)
  there_on (c ∷ rest) k r t there lt e =
      option_and_then_some (λ u. led_along m u rest) (m.go r.at c) t e
      (λ u goes leads.
      let more = there_on rest (suc k) (ran (r.order ++ c ∷ []) u) t
      (there_more k r c u there (All-head (λ d. d < m.callers) c rest lt) goes) (All-tail (λ d. d < m.callers) c rest lt) leads in
      let count : suc k + length rest ≡ k + length (c ∷ rest) = omega arith in
      subst (λ n. Contains (runs m s n) (ran (r.order ++ c ∷ rest) t)) count
      (subst (λ q. Contains (runs m s (suc k + length rest)) q)
      (same_run ((r.order ++ c ∷ []) ++ rest) (r.order ++ c ∷ rest) t t (append_assoc r.order (c ∷ []) rest) refl) more))

  there_first : Contains (runs m s 0) (ran [] s)
  unfolding runs
  there_first = (0, omega arith, refl)

  pub every_run_is_there : (r : Run S) → IsRun m s r → Contains (runs m s (length r.order)) r
  every_run_is_there r is =
      subst (λ n. Contains (runs m s n) r) (zero-add (length r.order))
      (there_on r.order 0 (ran [] s) r.at there_first is.by_callers is.leads)

  pub what_is_there_is_one : (r : Run S) → Contains (runs m s (length r.order)) r → IsRun m s r
  what_is_there_is_one r there = (All-contains (IsOf (length r.order)) (runs m s (length r.order)) r (all_are_runs (length r.order)) there).0
