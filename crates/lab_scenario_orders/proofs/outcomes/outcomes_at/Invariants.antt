use Rattle.std.proofs.Common.{◌≡◌, ℕ, ◌+◌, List}
use Rattle.lab_orders.specs.Fronts.{AreLed, AreOver}
use Rattle.lab_orders.specs.Tallies.{AreDistinct, told_weight}
use Rattle.lab_orders.specs.Weights.{weight}
use Rattle.lab_scenario_orders.specs.Callers.{first_seen, machine}
use Rattle.lab_scenario_orders.specs.Firsts.{LeadThere}
use Rattle.lab_scenario_orders.specs.Moments.{seen_at}
use Rattle.lab_scenario_orders.specs.Told.{told_text}
use Rattle.lab_scenario_orders.proofs.RisingLaws.{AreBehind}
use Rattle.lab_scenario_orders.proofs.outcomes.outcomes_at.Given as goal

abbrev pub invariant-loop-end : goal.invariant-loop-end
invariant-loop-end g l =
    let state = seen_at l.callers (g.B.BankMaker.bank l.bank) in
    record {
      distinct : AreDistinct l.all.items;
      sums : (f : List ℕ → ℕ) → told_weight f l.all.items + weight state (λ seen. f (told_text l.callers seen)) l.end-iterator.rest.items ≡ weight state (λ seen. f (told_text l.callers seen)) l.fn.ends.items;
      led : AreLed (machine l.callers) state (first_seen l.callers (g.B.BankMaker.bank l.bank)) l.end-iterator.rest.items;
      over : AreOver (machine l.callers) state l.end-iterator.rest.items;
      behind : AreBehind l.all.items l.end-iterator.rest.items;
      lead : LeadThere l.callers (first_seen l.callers (g.B.BankMaker.bank l.bank)) l.all.items;
    }
