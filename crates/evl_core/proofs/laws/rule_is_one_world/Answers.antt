use Rattle.evl_core.specs.rule.Known.{ComesFrom, ceilings_of, mutex_count, past_of, room_of}
use Rattle.evl_core.proofs.worlds.RuleWorld.{rule_to_world, world_to_rule}
use Rattle.evl_core.proofs.laws.rule_is_one_world.Goals as goal

pub returns-clause-world : goal.returns-clause-world
returns-clause-world g c = λ first. rule_to_world past_of room_of ComesFrom first (ceilings_of first) (mutex_count first)

pub returns-clause-rule : goal.returns-clause-rule
returns-clause-rule g c = λ first. world_to_rule past_of room_of ComesFrom first (ceilings_of first) (mutex_count first)
