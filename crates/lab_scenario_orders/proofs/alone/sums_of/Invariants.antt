use Rattle.std.proofs.Common.{◌≡◌, ◌≤◌, cond, take}
use Rattle.std.specs.Prelude.{sum_by}
use Rattle.lab_orders.specs.Weights.{weight}
use Rattle.lab_scenario_orders.specs.Asks.{is_against}
use Rattle.lab_scenario_orders.specs.Moments.{seen_at}
use Rattle.lab_scenario_orders.specs.Told.{told_text}
use Rattle.lab_scenario_orders.proofs.alone.sums_of.Given as goal

abbrev pub invariant-loop-end : goal.invariant-loop-end
invariant-loop-end g l =
    let done = take l.end-index l.ends in
    record {
      within : l.sums.against ≤ l.sums.orders;
      orders : l.sums.orders ≡ sum_by (λ end. end.count) done;
      against : l.sums.against ≡ weight (seen_at l.callers (g.B.BankMaker.bank l.bank)) (λ seen. cond (is_against l.ask (told_text l.callers seen)) 1 0) done;
    }
