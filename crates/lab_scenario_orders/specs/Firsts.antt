-- The orders that are given for outcomes.
use Rattle.std.specs.Prelude.{ℕ, ◌≡◌, true, List, All, Some, string_bytes}
use Rattle.lab_orders.specs.Machines.{is_over, led_along}
use Rattle.lab_orders.specs.declared.tallies.Tally.{Tally}
use Rattle.lab_scenario_orders.specs.Callers.{Seen, machine}
use Rattle.lab_scenario_orders.specs.Told.{told_text}
use Rattle.lab_scenario_orders.specs.declared.callers.Callers.{Callers}

-- this order leads from here to where nobody can make a step, and just this is reported there
pub record LeadsTo (c : Callers) (s : Seen) (told order : List ℕ) : Type 0 where
  pub end : Seen
  pub leads : led_along (machine c) s order ≡ Some end
  pub over : is_over (machine c) end ≡ true
  pub tells : told ≡ told_text c end

-- the order of each outcome leads there
abbrev pub LeadThere : Callers → Seen → List Tally → Type 0
LeadThere c s outcomes = All (λ outcome. LeadsTo c s (string_bytes outcome.told) outcome.order.items) outcomes
