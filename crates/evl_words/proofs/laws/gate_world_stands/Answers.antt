use Rattle.evl_words.proofs.GateEnds.{gate_law}
use Rattle.evl_words.proofs.laws.gate_world_stands.Goals as goal

pub returns : goal.returns
returns c = gate_law
