use Rattle.std.proofs.Common.{map}
use Rattle.lab_faults.specs.Told.{fault_told}
use Rattle.lab_faults.proofs.checks.explain.Goals as goal

pub returns-clause-told : goal.returns-clause-told
returns-clause-told c = record { found = map fault_told c.in_ok-found.found.items; finds = c.in_ok-found.ensures.told; led = c.in_ok-all.ensures.led }
