use Rattle.evl_kernel.proofs.state.OpeningLaws.{threads_few}
use Rattle.evl_core.specs.rule.Known.{ComesFrom, ceilings_of, mutex_count, past_of, room_of}
use Rattle.evl_core.proofs.worlds.OneWorldLaws.{one_dealings_keep}
use Rattle.evl_core.proofs.rule.TieOpens.{opens_as_first}
use Rattle.evl_core.proofs.laws.one_world_stands.Goals as goal

pub returns : goal.returns
returns g c = λ first k fits legal none_yet comes. one_dealings_keep past_of room_of ComesFrom first (ceilings_of first) (mutex_count first) k (λ i lt. threads_few k.history.board fits) legal none_yet comes (λ i lt. opens_as_first k first comes legal none_yet i)
