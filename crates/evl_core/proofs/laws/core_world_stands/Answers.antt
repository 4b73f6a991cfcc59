use Rattle.evl_core.specs.rule.Known.{ComesFrom, past_of, room_of}
use Rattle.evl_core.proofs.worlds.CoreLaws.{dealings_keep}
use Rattle.evl_core.proofs.laws.core_world_stands.Goals as goal

pub returns : goal.returns
returns g c = λ first. dealings_keep past_of room_of ComesFrom first
