use Rattle.lab_scenario_orders.proofs.asks.read_table.Goals as goal

pub returns-in-Err-read_watches-clause-why : goal.returns-in-Err-read_watches-clause-why
returns-in-Err-read_watches-clause-why c = c.in-Err-read_watches.ensures.why c.args.callers.now.callers.items
