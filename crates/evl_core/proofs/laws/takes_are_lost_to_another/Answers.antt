use Rattle.evl_core.specs.rule.Known.{ComesFrom, ceilings_of, mutex_count, past_of, room_of}
use Rattle.evl_core.proofs.worlds.OneWorldLaws.{none_turned_away}
use Rattle.evl_core.proofs.laws.takes_are_lost_to_another.Goals as goal

pub returns : goal.returns
returns g c = λ first. none_turned_away past_of room_of ComesFrom first (ceilings_of first) (mutex_count first)
