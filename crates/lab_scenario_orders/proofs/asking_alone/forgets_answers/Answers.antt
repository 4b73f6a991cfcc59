use Rattle.lab_scenario_orders.proofs.AloneLaws.{forgets}
use Rattle.lab_scenario_orders.proofs.asking_alone.forgets_answers.Goals as goal

pub returns : goal.returns
returns c = λ callers told. forgets told callers
