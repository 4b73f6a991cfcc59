use Rattle.std.proofs.Common.{◌≡◌, sym, subst}
use Rattle.std.specs.Prelude.{All}
use Rattle.test_hosts.proofs.RunLemmas.{newcomers_belong}
use Rattle.test_hosts.proofs.races.race_over.Goals as goal

pub raced_over-requires-clause-machine : goal.raced_over-requires-clause-machine
raced_over-requires-clause-machine g c κs within = subst (All (λ x. x.machine ≡ c.in-Ok.machine)) (sym c.in-Ok.ensures.callers) (newcomers_belong c.in-Ok.machine c.copied.result.threads)
