use Rattle.lab_orders.proofs.Once.{runs_are_apart}
use Rattle.lab_orders.proofs.laws.runs_are_there_once.Goals as goal

pub returns : goal.returns
returns g c = λ m s k. runs_are_apart m s k
