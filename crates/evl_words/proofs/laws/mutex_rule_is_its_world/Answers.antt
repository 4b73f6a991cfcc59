use Rattle.evl_words.specs.MutexWorld.{IsMutexWorld}
use Rattle.evl_words.proofs.RuleWorlds.{rule_to_world, world_to_rule}
use Rattle.evl_words.proofs.laws.mutex_rule_is_its_world.Goals as goal

pub returns : goal.returns
returns g c = λ seats s. (rule_to_world IsMutexWorld seats s, world_to_rule IsMutexWorld seats s)
