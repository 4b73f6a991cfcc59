use Rattle.lab_step_orders.proofs.Opening.{one_owner, run_sound}
use Rattle.lab_step_orders.proofs.laws.one_has_the_mutex.Goals as goal

pub returns : goal.returns
returns c = λ crew r is run i m e j k one other. let lies = (run_sound crew r is run).mutexes i m e in one_owner _ m lies.0 lies.1 j k one other
