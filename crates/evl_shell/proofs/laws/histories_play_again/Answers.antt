use Rattle.evl_shell.proofs.HistoryLemmas.{histories_again}
use Rattle.evl_shell.proofs.laws.histories_play_again.Goals as goal

pub returns : goal.returns
returns c = histories_again
