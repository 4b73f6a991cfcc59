use Rattle.std.proofs.Common.{map}
use Rattle.lab_faults.specs.Told.{fault_told}
use Rattle.lab_kinds.proofs.callers.explain.Goals as goal

pub returns : goal.returns
returns c = record { found = map fault_told c.in_ok-found.found.items; finds = c.in_ok-found.ensures; led = c.in_ok-all.ensures.led }
