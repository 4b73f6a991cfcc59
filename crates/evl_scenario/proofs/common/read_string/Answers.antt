use Rattle.std.proofs.Common.{arith}
use Rattle.std.proofs.lemmas.Grind.{common_steps}
use Rattle.std.proofs.lemmas.Bool.Decides.{nat_tests}
use Rattle.toml.specs.Parse.{atom}
use Rattle.toml.proofs.Views.{view-String}
use Rattle.evl_scenario.proofs.common.read_string.Goals as goal

pub returns-in-Ok-clause-value : goal.returns-in-Ok-clause-value
unfolding atom
returns-in-Ok-clause-value c = rw (view-String c.in-Ok.text) (grind (arith, nat_tests, common_steps))
