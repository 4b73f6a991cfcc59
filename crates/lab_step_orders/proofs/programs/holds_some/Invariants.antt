use Rattle.std.proofs.Common.{◌≡◌, drop, map}
use Rattle.lab_step_orders.specs.Moments.{shared_of}
use Rattle.lab_step_orders.specs.Programs.{holds_some}
use Rattle.lab_step_orders.proofs.programs.holds_some.Given as goal

abbrev pub invariant-loop-shared : goal.invariant-loop-shared
invariant-loop-shared l = holds_some (map shared_of (drop l.shared-index l.all)) l.caller ≡ holds_some (map shared_of l.all) l.caller
