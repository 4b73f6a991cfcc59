use Rattle.evl_core.specs.rule.Known.{ComesFrom, past_of, room_of}
use Rattle.evl_core.proofs.worlds.CoreLaws.{events_keep}
use Rattle.evl_core.proofs.laws.core_events_keep_order.Goals as goal

pub returns : goal.returns
returns g c = events_keep past_of room_of ComesFrom
