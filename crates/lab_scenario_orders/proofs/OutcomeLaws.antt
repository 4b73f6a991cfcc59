-- Sums over ends and over outcomes, and why outcomes can't be reported.
use Rattle.std.proofs.Common.{◌≡◌, ℕ, ◌+◌, ◌*◌, ◌≤◌, List, [], ◌∷◌, length, Result, Ok, Err, IfErr, refl, subst, arith, inl, inr}
use Rattle.std.specs.Prelude.{sum_by}
use Rattle.std.proofs.lemmas.List.Sums.{sum_by-cons}
use Rattle.evl_kernel.specs.state.States.{Handler}
use Rattle.lab_orders.specs.Machines.{orders, runs}
use Rattle.lab_orders.specs.Weights.{count_limit, weight}
use Rattle.lab_orders.specs.declared.levels.OrdersError.{OrdersError}
use Rattle.lab_orders.specs.declared.levels.OrdersError.TheVariants.{Memory, Count}
use Rattle.lab_orders.specs.declared.nodes.Node.{Node}
use Rattle.lab_scenario_orders.specs.Callers.{Seen, first_seen, machine}
use Rattle.lab_scenario_orders.specs.Outcomes.{CanNotTell}
use Rattle.lab_scenario_orders.specs.declared.callers.Callers.{Callers}

-- each order of a node counts once
pub weight_of_ones : {M S : Type 0} (state : M → S) (nodes : List (Node M)) → weight state (λ s. 1) nodes ≡ sum_by (λ node. node.count) nodes
weight_of_ones state [] = refl
weight_of_ones {M} state (node ∷ nodes) =
    let more : weight state (λ s. 1) (node ∷ nodes) ≡ node.count * 1 + weight state (λ s. 1) nodes = sum_by-cons (λ (n : Node M). n.count * 1) node nodes in
    let all : sum_by (λ n. n.count) (node ∷ nodes) ≡ node.count + sum_by (λ n. n.count) nodes = sum_by-cons (λ (n : Node M). n.count) node nodes in
    omega (arith, more, all, weight_of_ones state nodes)

-- of a number of steps there are more runs, or more orders of fewer, than a count can hold
pub too_many_runs : (c : Callers) (bank : List Handler) (most : ℕ) (e : OrdersError) → (e ≡ Count → (k : ℕ) × (k ≤ most) × (count_limit ≤ length (runs (machine c) (first_seen c bank) k)))
    → CanNotTell c bank e
too_many_runs c bank most Memory f = tt
too_many_runs c bank most Count f = let r = f refl in (r.0, inl r.2)

pub too_many_orders : (c : Callers) (bank : List Handler) (steps : ℕ) (e : OrdersError) → (e ≡ Count → count_limit ≤ length (orders (machine c) (first_seen c bank) steps)) → CanNotTell c bank e
too_many_orders c bank steps Memory f = tt
too_many_orders c bank steps Count f = (steps, inr (f refl))

pub cannot_tell : {A : Type 0} (r : Result A OrdersError) (c : Callers) (bank : List Handler) (most : ℕ) (s : Seen) → s ≡ first_seen c bank
    → IfErr r (λ e. e ≡ Count → (k : ℕ) × (k ≤ most) × (count_limit ≤ length (runs (machine c) s k))) → IfErr r (CanNotTell c bank)
cannot_tell (Ok a) c bank most s same h = tt
cannot_tell (Err e) c bank most s same h =
    too_many_runs c bank most e (λ is. let r = h is in (r.0, r.1, subst (λ (t : Seen). count_limit ≤ length (runs (machine c) t r.0)) same r.2))
