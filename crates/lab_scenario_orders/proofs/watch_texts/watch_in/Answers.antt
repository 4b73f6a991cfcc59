use Rattle.lab_scenario_orders.proofs.watch_texts.watch_in.Goals as goal

pub returns-in-Ok-None-clause-bad : goal.returns-in-Ok-None-clause-bad
returns-in-Ok-None-clause-bad c = λ callers. c.unread.ensures callers c.args.board.now
