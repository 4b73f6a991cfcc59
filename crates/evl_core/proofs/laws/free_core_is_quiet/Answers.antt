use Rattle.evl_core.proofs.worlds.QuietCore.{free_is_quiet}
use Rattle.evl_core.proofs.laws.free_core_is_quiet.Goals as goal

pub returns : goal.returns
returns g c = free_is_quiet
