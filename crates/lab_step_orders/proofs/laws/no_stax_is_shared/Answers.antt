use Rattle.lab_step_orders.proofs.Opening.{one_stage, run_sound}
use Rattle.lab_step_orders.proofs.laws.no_stax_is_shared.Goals as goal

pub returns : goal.returns
returns c = λ crew r is run i g e j k one other. let lies = (run_sound crew r is run).gates i g e in one_stage crew i g lies.0 lies.1 j k one other
