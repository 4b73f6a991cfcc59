use Rattle.evl_words.specs.GateWorld.{IsGateWorld}
use Rattle.evl_words.proofs.RuleWorlds.{rule_to_world, world_to_rule}
use Rattle.evl_words.proofs.laws.gate_rule_is_its_world.Goals as goal

pub returns : goal.returns
returns g c = λ limit seats s. (rule_to_world (IsGateWorld limit) seats s, world_to_rule (IsGateWorld limit) seats s)
