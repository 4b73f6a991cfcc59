use Rattle.std.proofs.Common.{◌≡◌, sym, subst}
use Rattle.std.specs.Prelude.{All}
use Rattle.test_hosts.proofs.RunLemmas.{newcomers_belong}
use Rattle.test_hosts.proofs.runs.run_over.Goals as goal

pub played-requires-clause-machine : goal.played-requires-clause-machine
played-requires-clause-machine g c κs within = subst (All (λ x. x.machine ≡ c.in-Ok.machine.of)) (sym c.in-Ok.ensures.callers) (newcomers_belong c.in-Ok.machine.of c.shared_board.result.threads)
