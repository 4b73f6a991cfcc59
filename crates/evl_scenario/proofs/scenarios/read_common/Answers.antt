use Rattle.toml.specs.View.{table_view}
use Rattle.evl_scenario.proofs.CommonLaws.{scenario_read}
use Rattle.evl_scenario.proofs.scenarios.read_common.Goals as goal

pub returns : goal.returns
returns c =
    scenario_read c.args.given c.args.text.now c.in_ok-table.rest.now (table_view c.in_ok-table.table) c.in_ok-steps.steps.items c.in_ok-board.board c.in_ok-board.limit
    c.in_ok-table.ensures c.in_ok-steps.ensures c.in_ok-board.ensures
