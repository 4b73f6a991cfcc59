use Rattle.lab_step_orders.proofs.WholeLaws.{all_end_alike}
use Rattle.lab_step_orders.proofs.laws.visits_are_whole.Goals as goal

pub returns : goal.returns
returns c = all_end_alike
