-- The first question about moments against which it is what was found.
use Rattle.std.proofs.Common.{◌≡◌, ◌<◌, ◌≤◌, ◌+◌, ℕ, List, Bool, true, false, Some, None, length, drop, get_or, refl}
use Rattle.std.proofs.lemmas.List.{drop_all, drop_more}
use Rattle.lab_orders.specs.declared.firsts.First.{First}
use Rattle.lab_scenario_orders.specs.Verdicts.{is_state_against, state_against}
use Rattle.lab_scenario_orders.specs.declared.watches.Watch.{Watch}

module _ (firsts : List First) (whole : Bool) (watches : List Watch) (place : ℕ) where
  pub state_here : (w : Watch) → place < length watches → w ≡ get_or watches place w → is_state_against firsts whole place w.when ≡ true
      → state_against firsts whole place (drop place watches) ≡ Some place
  state_here w within is against = rw (drop_more watches place w within, ← is, against) refl

  pub state_behind : (w : Watch) → place < length watches → w ≡ get_or watches place w → is_state_against firsts whole place w.when ≡ false
      → state_against firsts whole place (drop place watches) ≡ state_against firsts whole (place + 1) (drop (place + 1) watches)
  state_behind w within is holds = rw (drop_more watches place w within, ← is, holds) refl

  pub state_nowhere : length watches ≤ place → state_against firsts whole place (drop place watches) ≡ None
  state_nowhere past = rw (drop_all place watches past) refl
