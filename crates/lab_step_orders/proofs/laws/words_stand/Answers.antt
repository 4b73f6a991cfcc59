use Rattle.lab_step_orders.proofs.Opening.{run_sound}
use Rattle.lab_step_orders.proofs.laws.words_stand.Goals as goal

pub returns : goal.returns
returns c = λ crew r is run. let sound = run_sound crew r is run in (sound.gates, sound.mutexes)
