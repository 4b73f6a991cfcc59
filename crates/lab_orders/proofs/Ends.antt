-- If there is no run of so many steps, there is no longer one.
use Rattle.std.proofs.Common.{◌≡◌, ℕ, zero, suc, ◌+◌, [], ◌++◌, ◌∙◌, ap, add-zero, add-suc, append-nil}
use Rattle.std.specs.Prelude.{filter, flat_map}
use Rattle.lab_orders.specs.Machines.{Machine, is_over, longer, runs, orders}

module _ {S : Type 0} (m : Machine S) (s : S) (k : ℕ) (none : runs m s k ≡ []) where
  none_behind : (more : ℕ) → runs m s (k + more) ≡ []
  unfolding runs
  none_behind zero = ap (runs m s) (add-zero k) ∙ none
  none_behind (suc more) = ap (runs m s) (add-suc k more) ∙ ap (flat_map (longer m)) (none_behind more)

  pub no_more_orders : (more : ℕ) → orders m s (k + more) ≡ orders m s k
  unfolding orders
  no_more_orders zero = ap (orders m s) (add-zero k)
  no_more_orders (suc more) =
      ap (orders m s) (add-suc k more)
      ∙ (ap (λ rs. orders m s (k + more) ++ filter (λ r. is_over m r.at) rs) (none_behind more)
      ∙ (append-nil (orders m s (k + more)) ∙ no_more_orders more))
