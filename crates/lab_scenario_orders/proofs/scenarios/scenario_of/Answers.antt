use Rattle.std.specs.Prelude.{string_bytes}
use Rattle.lab_scenario_orders.proofs.ScenarioLaws.{written}
use Rattle.lab_scenario_orders.proofs.scenarios.scenario_of.Goals as goal

pub returns : goal.returns
returns g c =
    written c.args.callers.now c.in_ok-made.made.items c.args.order.now
    (string_bytes c.new-text.result) (string_bytes c.write_opening.new.text) (string_bytes c.put_steps.new.text) (string_bytes c.put_along.new.text)
    c.new-text.ensures.bytes c.in_ok-write_opening.ensures
    (rw c.as_slice.ensures.value at c.in_ok-put_steps.ensures)
    c.in_ok-put_along.ensures
    (rw c.as_slice-2.ensures.value at c.in_ok-made.ensures)
