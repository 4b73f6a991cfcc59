use Rattle.evl_words.specs.GateWorld.{GateTie, gate_author, gate_steps}
use Rattle.evl_words.specs.Gate.{GateStep, open_gate}
use Rattle.evl_words.proofs.Events.{events_keep}
use Rattle.evl_words.proofs.GateSteps.{step_keeps}
use Rattle.evl_words.proofs.laws.gate_events_keep_order.Goals as goal

pub returns : goal.returns
returns c = λ limit w t events h run. events_keep gate_author (GateStep limit) open_gate (GateTie limit) gate_steps (step_keeps limit) w t events h run
