-- Which groups have budget, where one group changes.
use Rattle.std.proofs.Common.{◌≡◌, ℕ, suc, zero, ◌==◌, nat_lt, Bool, true, false, List, [], ◌∷◌, map, Option, Some, None, slice_get, slice_set, if◌then◌else◌, refl, sym, ap, ◌∙◌}
use Rattle.std.specs.Option.{option_map_or}
use Rattle.std.proofs.lemmas.Bool.{eqb-true}
use Rattle.evl_sched.specs.declared.group.Group.{Group}
use Rattle.evl_sched.specs.declared.place.Place.{Place}
use Rattle.evl_sched.specs.Groups.{full, has_budget, opened_group, refilled_budgets}
use Rattle.evl_sched.specs.Places.{rank_in}

-- one that has budget just where it had some before
pub budget-set : (groups : List Group) (i : ℕ) (old new : Group) → slice_get groups i ≡ Some old → nat_lt 0 new.budget ≡ nat_lt 0 old.budget → (other : Option ℕ)
    → has_budget (slice_set groups i new) other ≡ has_budget groups other
budget-set groups i old new at same None = refl
budget-set groups i old new at same (Some n) = go groups i n at
  where
    go : (groups : List Group) (i n : ℕ) → slice_get groups i ≡ Some old
        → option_map_or (λ (g : Group). nat_lt 0 g.budget) (slice_get (slice_set groups i new) n) false ≡ option_map_or (λ (g : Group). nat_lt 0 g.budget) (slice_get groups n) false
    go [] i n e = refl
    go (g ∷ gs) zero zero e = same ∙ sym (ap (λ (o : Option Group). option_map_or (λ (g : Group). nat_lt 0 g.budget) o false) e)
    go (g ∷ gs) zero (suc n) e = refl
    go (g ∷ gs) (suc i) zero e = refl
    go (g ∷ gs) (suc i) (suc n) e = go gs i n e

-- a thread that is placed as it is wanted
pub stands_still : (places : List (Option Place)) (wanted : ℕ → Option ℕ) (n : ℕ) → rank_in places n ≡ wanted n → (t : ℕ) → rank_in places t ≡ (if t == n then wanted n else rank_in places t)
stands_still places wanted n e t = by (t == n) refl
  where
    by : (b : Bool) → (t == n) ≡ b → rank_in places t ≡ (if b then wanted n else rank_in places t)
    by true at = ap (rank_in places) (eqb-true t n at) ∙ e
    by false ne = refl

-- full groups are those that were opened with their parts
pub refilled-opened : (gs : List Group) → map opened_group (map (λ (g : Group). g.percent) gs) ≡ refilled_budgets gs
refilled-opened [] = refl
refilled-opened (g ∷ gs) = ap (λ (hs : List Group). full g ∷ hs) (refilled-opened gs)
