use Rattle.lab_orders.proofs.firsts.noticed_at.Goals as goal

pub returns-in-Nowhere : goal.returns-in-Nowhere
returns-in-Nowhere g c = rw c.in-Nowhere.is c.first_at.ensures
