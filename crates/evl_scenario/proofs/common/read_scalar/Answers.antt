use Rattle.std.proofs.Common.{refl}
use Rattle.toml.specs.Parse.{atom}
use Rattle.evl_scenario.proofs.common.read_scalar.Goals as goal

pub returns-clause-value : goal.returns-clause-value
unfolding atom
returns-clause-value c = rw (c.requires, c.in-Ok.ensures.value, c.in_ok-value.ensures) refl
