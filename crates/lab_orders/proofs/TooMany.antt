-- More orders than a count can hold.
use Rattle.std.proofs.Common.{◌≡◌, ℕ, zero, suc, ◌+◌, ◌*◌, inl, inr, List, [], ◌∷◌, ◌++◌, length, ap, arith, zero-add, add-one}
use Rattle.std.specs.Prelude.{◌<◌, ◌≤◌, Some, slice_get, sum_by}
use Rattle.std.specs.Option.{option_map_or}
use Rattle.std.proofs.Math.Nat.{mul-le-mul_left}
use Rattle.std.proofs.lemmas.List.Sums.{get_or-le-sum_by, sum_by-append, sum_by-cons, sum_by_push}
use Rattle.std.proofs.lemmas.Option.{slice_get_within, get_or_from_slice_get}
use Rattle.lab_orders.specs.Machines.{Machine, numbers_below, runs}
use Rattle.lab_orders.specs.Weights.{ahead, ahead_by, weight}
use Rattle.lab_orders.specs.Fronts.{IsFront}
use Rattle.lab_orders.specs.declared.nodes.Node.{Node}
use Rattle.lab_orders.proofs.EveryRun.{below_or_at}
use Rattle.lab_orders.proofs.Totals.{total_of_ones, total_runs_more}

-- the orders of one node are among those of all
pub count_within : {M S : Type 0} (state : M → S) (nodes : List (Node M)) (i : ℕ) (node : Node M) → slice_get nodes i ≡ Some node → node.count ≤ weight state (λ s. 1) nodes
count_within {M} state nodes i node e =
    let f : Node M → ℕ = λ n. n.count * 1 in
    omega (arith, get_or-le-sum_by f nodes i node (slice_get_within nodes i node e), ap f (get_or_from_slice_get nodes i node node e))

-- a number below n is among these
pub sum_below : (g : ℕ → ℕ) (c n : ℕ) → c < n → sum_by g (numbers_below c) + g c ≤ sum_by g (numbers_below n)
sum_below g c zero h = absurd (omega (arith, h))
sum_below g c (suc n) h = elim (below_or_at n c h) as (λ v. sum_by g (numbers_below c) + g c ≤ sum_by g (numbers_below (suc n))) [
  | inl less ↦ omega (arith, sum_by_push g (numbers_below n) n, sum_below g c n less)
  | inr e ↦ omega (arith, sum_by_push g (numbers_below n) n, ap (λ k. sum_by g (numbers_below k) + g k) e)
]

module _ {S : Type 0} (m : Machine S) (f : S → ℕ) where
  among_callers : (s : S) (c : ℕ) → c < m.callers → ahead_by m f s (numbers_below c) + ahead_by m f s (c ∷ []) ≤ ahead m f s
  among_callers s c h =
      let g : ℕ → ℕ = λ e. option_map_or f (m.go s e) 0 in
      let single : ahead_by m f s (c ∷ []) ≡ g c = zero-add (g c) in
      omega (arith, single, sum_below g c m.callers h)

  -- the step of one caller, after those of the callers before it
  pub too_many_by : (limit w u k : ℕ) (s : S) (c : ℕ) → c < m.callers → w ≡ u + k * ahead_by m f s (numbers_below c) → limit ≤ w + k * ahead_by m f s (c ∷ [])
      → limit ≤ u + k * ahead m f s
  too_many_by limit w u k s c h before more =
      joined (ahead_by m f s (numbers_below c)) (ahead_by m f s (c ∷ [])) (ahead m f s) (among_callers s c h) before more
    where
      joined : (a b all : ℕ) → a + b ≤ all → w ≡ u + k * a → limit ≤ w + k * b → limit ≤ u + k * all
      joined a b all le before more =
          let times : k * (a + b) ≤ k * all = mul-le-mul_left k le in
          let spread : k * (a + b) ≡ k * a + k * b = omega arith in
          omega (arith, times, spread, before, more)

  -- the steps from one node, after those from the nodes before it
  pub too_many_from : {M : Type 0} (state : M → S) (limit w : ℕ) (done rest others level : List (Node M)) (node : Node M) → done ++ rest ≡ level → rest ≡ node ∷ others
      → w ≡ weight state (ahead m f) done → limit ≤ w + node.count * ahead m f (state node.at) → limit ≤ weight state (ahead m f) level
  too_many_from {M} state limit w done rest others level node whole split before more =
      let g : Node M → ℕ = λ n. n.count * ahead m f (state n.at) in
      let parts : weight state (ahead m f) (done ++ rest) ≡ weight state (ahead m f) done + weight state (ahead m f) rest = sum_by-append g done rest in
      let first : weight state (ahead m f) (node ∷ others) ≡ g node + weight state (ahead m f) others = sum_by-cons g node others in
      omega (arith, parts, first, ap (weight state (ahead m f)) whole, ap (weight state (ahead m f)) split, before, more)

-- the runs of one step more
pub too_many_runs : {M S : Type 0} (m : Machine S) (state : M → S) (fits : M → Type 0) (limit : ℕ) (s : S) (steps : ℕ) (level ends : List (Node M)) → IsFront m state fits s steps level ends
    → limit ≤ weight state (ahead m (λ t. 1)) level → limit ≤ length (runs m s (steps + 1))
too_many_runs {M} {S} m state fits limit s steps level ends front more =
    let one : S → ℕ = λ t. 1 in
    omega (arith, more, front.reached (ahead m one), total_runs_more m one s steps, total_of_ones (runs m s (suc steps)), ap (λ k. length (runs m s k)) (add-one steps))
