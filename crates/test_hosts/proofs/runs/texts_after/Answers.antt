use Rattle.test_hosts.proofs.RunLemmas.{left_by_callers}
use Rattle.test_hosts.proofs.runs.texts_after.Goals as goal

pub returns-in-Ok-clause-closed : goal.returns-in-Ok-clause-closed
returns-in-Ok-clause-closed g c = left_by_callers c.args.machine.of c.args.callers.items c.in-Ok.kernel _ c.texts_of-texts.result c.requires.board c.in-Ok.ensures.closed c.texts_of-texts.ensures.texts
