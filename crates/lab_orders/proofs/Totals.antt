-- Sums over runs, by one step more.
use Rattle.std.proofs.Common.{◌≡◌, ℕ, suc, ◌+◌, Bool, true, false, cond, List, [], ◌∷◌, ◌++◌, length, refl, sym, ◌∙◌, ap, arith, zero-add}
use Rattle.std.specs.Prelude.{Option, Some, None, option_map, filter, filter_map, flat_map}
use Rattle.std.specs.List.{cons_option}
use Rattle.std.specs.Option.{option_map_or}
use Rattle.std.proofs.lemmas.List.Sums.{sum_by-cons, sum_by-append}
use Rattle.lab_orders.specs.Machines.{Machine, Run, ran, numbers_below, is_over, longer_by, longer, runs, orders}
use Rattle.lab_orders.specs.Weights.{total, ahead_by, ahead, at_end}

module _ {S : Type 0} (m : Machine S) (f : S → ℕ) where
  -- what one caller's step adds
  total_step : (order : List ℕ) (o : Option S) (rest : List (Run S))
      → total f (cons_option (option_map (ran order) o) rest) ≡ option_map_or f o 0 + total f rest
  total_step order None rest = sym (zero-add (total f rest))
  total_step order (Some t) rest = sum_by-cons (λ (r : Run S). f r.at) (ran order t) rest

  total_longer_by : (r : Run S) (cs : List ℕ) → total f (filter_map (longer_by m r) cs) ≡ ahead_by m f r.at cs
  total_longer_by r [] = refl
  total_longer_by r (c ∷ cs) =
      total_step (r.order ++ c ∷ []) (m.go r.at c) (filter_map (longer_by m r) cs)
      ∙ (ap (λ n. option_map_or f (m.go r.at c) 0 + n) (total_longer_by r cs)
      ∙ sym (sum_by-cons (λ (e : ℕ). option_map_or f (m.go r.at e) 0) c cs))

  -- the runs of one step more
  pub total_ahead : (rs : List (Run S)) → total f (flat_map (longer m) rs) ≡ total (ahead m f) rs
  total_ahead [] = refl
  total_ahead (r ∷ rs) =
      sum_by-append (λ (q : Run S). f q.at) (longer m r) (flat_map (longer m) rs)
      ∙ (ap (λ n. n + total f (flat_map (longer m) rs)) (total_longer_by r (numbers_below m.callers))
      ∙ (ap (λ n. ahead m f r.at + n) (total_ahead rs)
      ∙ sym (sum_by-cons (λ (q : Run S). ahead m f q.at) r rs)))

  total_chosen : (b : Bool) (r : Run S) (rest : List (Run S)) → total f (cond b (r ∷ rest) rest) ≡ cond b (f r.at) 0 + total f rest
  total_chosen true r rest = sum_by-cons (λ (q : Run S). f q.at) r rest
  total_chosen false r rest = sym (zero-add (total f rest))

  -- the runs after which nobody can make a step
  pub total_over : (rs : List (Run S)) → total f (filter (λ r. is_over m r.at) rs) ≡ total (at_end m f) rs
  total_over [] = refl
  total_over (r ∷ rs) =
      total_chosen (is_over m r.at) r (filter (λ q. is_over m q.at) rs)
      ∙ (ap (λ n. at_end m f r.at + n) (total_over rs)
      ∙ sym (sum_by-cons (λ (q : Run S). at_end m f q.at) r rs))

  pub total_runs_zero : (s : S) → total f (runs m s 0) ≡ f s
  unfolding runs
  total_runs_zero s = zero-add (f s)

  pub total_runs_more : (s : S) (k : ℕ) → total f (runs m s (suc k)) ≡ total (ahead m f) (runs m s k)
  unfolding runs
  total_runs_more s k = total_ahead (runs m s k)

  pub total_orders_zero : (s : S) → total f (orders m s 0) ≡ 0
  unfolding orders
  total_orders_zero s = refl

  pub total_orders_more : (s : S) (k : ℕ) → total f (orders m s (suc k)) ≡ total f (orders m s k) + total (at_end m f) (runs m s k)
  unfolding orders
  total_orders_more s k =
      sum_by-append (λ (q : Run S). f q.at) (orders m s k) (filter (λ r. is_over m r.at) (runs m s k))
      ∙ ap (λ n. total f (orders m s k) + n) (total_over (runs m s k))

-- where one for each run is 0 there is no run
-- each run counts once
pub total_of_ones : {S : Type 0} (rs : List (Run S)) → total (λ s. 1) rs ≡ length rs
total_of_ones [] = refl
total_of_ones {S} (r ∷ rs) = omega (arith, sum_by-cons (λ (q : Run S). 1) r rs, total_of_ones rs)

pub none_left : {S : Type 0} (rs : List (Run S)) → total (λ s. 1) rs ≡ 0 → rs ≡ []
none_left [] e = refl
none_left {S} (r ∷ rs) e = absurd (omega (arith, e, sum_by-cons (λ (q : Run S). 1) r rs))
