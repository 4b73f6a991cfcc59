use Rattle.lab_orders.proofs.EveryRun.{every_run_is_there, what_is_there_is_one}
use Rattle.lab_orders.proofs.laws.runs_are_all_runs.Goals as goal

pub returns : goal.returns
returns g c = λ m s r. (what_is_there_is_one m s r, every_run_is_there m s r)
