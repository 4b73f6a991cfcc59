use Rattle.evl_shell.proofs.HistoryLemmas.{no_trace}
use Rattle.evl_shell.proofs.laws.staxes_leave_no_trace.Goals as goal

pub returns : goal.returns
returns c = no_trace
