use Rattle.std.proofs.Common.{List, ap}
use Rattle.toml.specs.View.{array_view, items_view, table_view, view}
use Rattle.toml.specs.declared.value.Value.{Value}
use Rattle.lab_scenario_orders.proofs.AskFaultLaws.{facts_at}
use Rattle.lab_scenario_orders.proofs.watch_texts.watches_at.Goals as goal

pub returns-in-Some-as_array-clause-why : goal.returns-in-Some-as_array-clause-why
returns-in-Some-as_array-clause-why c =
    facts_at c.args.board.now (table_view c.args.table.now) c.args.when c.when_key.result.now (view c.in-Some.value.now) (array_view c.in-Some-as_array.values.now) c.as_slice.result.now c.read_values.result
    c.when_key.ensures c.in-Some.ensures c.in-Some-as_array.ensures (ap (λ (l : List Value). items_view l) c.as_slice.ensures.value) c.read_values.ensures.bad
