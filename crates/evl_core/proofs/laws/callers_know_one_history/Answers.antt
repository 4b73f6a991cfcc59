use Rattle.evl_core.proofs.worlds.Tokens.{one_history_known}
use Rattle.evl_core.proofs.laws.callers_know_one_history.Goals as goal

pub returns : goal.returns
returns g c = one_history_known
