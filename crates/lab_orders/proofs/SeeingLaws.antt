-- All that is seen of a machine is counted as it is.
use Rattle.std.proofs.Common.{◌≡◌, ℕ, zero, suc, ◌+◌, Bool, true, false, cond, List, [], ◌∷◌, refl, sym, ◌∙◌, ap}
use Rattle.std.specs.Prelude.{◌&&◌, Option, Some, None, is_none, option_map}
use Rattle.std.specs.List.{list_all}
use Rattle.std.specs.Option.{option_map_or}
use Rattle.std.proofs.lemmas.List.Sums.{sum_by-cons}
use Rattle.lab_orders.specs.Laws.{CountsWhatIsSeen, IsSeenOf}
use Rattle.lab_orders.specs.Machines.{Machine, Run, is_over, numbers_below, orders, runs}
use Rattle.lab_orders.specs.Weights.{ahead, ahead_by, at_end, total}
use Rattle.lab_orders.proofs.Totals.{total_orders_more, total_orders_zero, total_runs_more, total_runs_zero}

-- two numbers of each state, the same everywhere
total_same : {S : Type 0} (f g : S → ℕ) → ((s : S) → f s ≡ g s) → (rs : List (Run S)) → total f rs ≡ total g rs
total_same f g same [] = refl
total_same {S} f g same (r ∷ rs) =
    sum_by-cons (λ (q : Run S). f q.at) r rs
    ∙ (ap (λ n. n + total f rs) (same r.at) ∙ (ap (λ n. g r.at + n) (total_same f g same rs) ∙ sym (sum_by-cons (λ (q : Run S). g q.at) r rs)))

seen_or : {S T : Type 0} (see : S → T) (f : T → ℕ) (o : Option S) → option_map_or f (option_map see o) 0 ≡ option_map_or (λ s. f (see s)) o 0
seen_or see f None = refl
seen_or see f (Some s) = refl

seen_none : {S T : Type 0} (see : S → T) (o : Option S) → is_none (option_map see o) ≡ is_none o
seen_none see None = refl
seen_none see (Some s) = refl

module _ {S T : Type 0} (m : Machine S) (n : Machine T) (see : S → T) (seen : IsSeenOf m n see) where
  seen_by : (f : T → ℕ) (s : S) (cs : List ℕ) → ahead_by n f (see s) cs ≡ ahead_by m (λ t. f (see t)) s cs
  seen_by f s [] = refl
  seen_by f s (c ∷ cs) =
      sum_by-cons (λ (d : ℕ). option_map_or f (n.go (see s) d) 0) c cs
      ∙ (ap (λ k. k + ahead_by n f (see s) cs) (ap (λ (o : Option T). option_map_or f o 0) (seen.go s c) ∙ seen_or see f (m.go s c))
      ∙ (ap (λ k. option_map_or (λ t. f (see t)) (m.go s c) 0 + k) (seen_by f s cs)
      ∙ sym (sum_by-cons (λ (d : ℕ). option_map_or (λ t. f (see t)) (m.go s d) 0) c cs)))

  seen_ahead : (f : T → ℕ) (s : S) → ahead n f (see s) ≡ ahead m (λ t. f (see t)) s
  seen_ahead f s = ap (λ k. ahead_by n f (see s) (numbers_below k)) seen.callers ∙ seen_by f s (numbers_below m.callers)

  all_none : (s : S) (cs : List ℕ) → list_all (λ c. is_none (n.go (see s) c)) cs ≡ list_all (λ c. is_none (m.go s c)) cs
  all_none s [] = refl
  all_none s (c ∷ cs) =
      ap (λ b. b && list_all (λ d. is_none (n.go (see s) d)) cs) (ap (λ (o : Option T). is_none o) (seen.go s c) ∙ seen_none see (m.go s c))
      ∙ ap (λ b. is_none (m.go s c) && b) (all_none s cs)

  seen_over : (s : S) → is_over n (see s) ≡ is_over m s
  seen_over s = ap (λ k. list_all (λ c. is_none (n.go (see s) c)) (numbers_below k)) seen.callers ∙ all_none s (numbers_below m.callers)

  seen_end : (f : T → ℕ) (s : S) → at_end n f (see s) ≡ at_end m (λ t. f (see t)) s
  seen_end f s = ap (λ b. cond b (f (see s)) 0) (seen_over s)

  seen_runs : (s : S) (k : ℕ) (f : T → ℕ) → total f (runs n (see s) k) ≡ total (λ t. f (see t)) (runs m s k)
  seen_runs s zero f = total_runs_zero n f (see s) ∙ sym (total_runs_zero m (λ t. f (see t)) s)
  seen_runs s (suc k) f =
      total_runs_more n f (see s) k
      ∙ (seen_runs s k (ahead n f)
      ∙ (total_same (λ t. ahead n f (see t)) (ahead m (λ t. f (see t))) (seen_ahead f) (runs m s k)
      ∙ sym (total_runs_more m (λ t. f (see t)) s k)))

  seen_orders : (s : S) (k : ℕ) (f : T → ℕ) → total f (orders n (see s) k) ≡ total (λ t. f (see t)) (orders m s k)
  seen_orders s zero f = total_orders_zero n f (see s) ∙ sym (total_orders_zero m (λ t. f (see t)) s)
  seen_orders s (suc k) f =
      total_orders_more n f (see s) k
      ∙ (ap (λ j. j + total (at_end n f) (runs n (see s) k)) (seen_orders s k f)
      ∙ (ap (λ j. total (λ t. f (see t)) (orders m s k) + j)
      (seen_runs s k (at_end n f) ∙ total_same (λ t. at_end n f (see t)) (at_end m (λ t. f (see t))) (seen_end f) (runs m s k))
      ∙ sym (total_orders_more m (λ t. f (see t)) s k)))

  pub what_is_seen : (s : S) (k : ℕ) → CountsWhatIsSeen m n see s k
  what_is_seen s k = record { each_run = seen_runs s k; each_order = seen_orders s k }
