use Rattle.lab_scenario_orders.proofs.watch_texts.read_watches.Goals as goal

pub returns-in-Ok-put_together-2-clause-are : goal.returns-in-Ok-put_together-2-clause-are
returns-in-Ok-put_together-2-clause-are c =
    let board = c.args.board.now in
    c.in-Ok-put_together-2.ensures.are board c.in-Ok.ensures.are (c.in-Ok-put_together.ensures.are board c.in-Ok-watches_at.ensures.are c.in-Ok-watches_at-2.ensures.are)
