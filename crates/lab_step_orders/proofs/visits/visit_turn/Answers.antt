use Rattle.lab_step_orders.proofs.visits.visit_turn.Goals as goal

pub returns-in-End : goal.returns-in-End
returns-in-End g c = rw c.in-End.is (c.ending.ensures c.args.crew.now)
