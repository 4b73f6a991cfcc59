use Rattle.evl_core.proofs.worlds.TiedCore.{free_is_tied}
use Rattle.evl_core.proofs.laws.free_core_is_tied.Goals as goal

pub returns : goal.returns
returns g c = free_is_tied
