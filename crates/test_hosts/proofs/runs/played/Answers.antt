use Rattle.test_hosts.proofs.RunLemmas.{of_the_run}
use Rattle.test_hosts.proofs.runs.played.Goals as goal

pub returns-in-Ok : goal.returns-in-Ok
returns-in-Ok g c = of_the_run c.args.machine.of c.in-Ok.back.items c.args.threads c.texts_after.result c.requires.board c.texts_after.ensures.closed c.texts_after.ensures.played
