use Rattle.evl_core.proofs.worlds.LostTakes.{none_lost_free}
use Rattle.evl_core.proofs.laws.free_core_turns_no_token_away.Goals as goal

pub returns : goal.returns
returns g c = none_lost_free
