use Rattle.std.proofs.Common.{map}
use Rattle.evl_plans.specs.Told.{handler_of}
use Rattle.lab_drives.proofs.LiveLemmas.{undriven}
use Rattle.lab_drives.proofs.lives.drive_plans.Goals as goal

pub returns-in_ok-kind-in-Err-clause-writes : goal.returns-in_ok-kind-in-Err-clause-writes
returns-in_ok-kind-in-Err-clause-writes g c =
    undriven _ (map handler_of c.args.plans.items) c.args.limit _ c.args.text.now _ c.in-Err.fault _ _ _ c.tell_fault_by.result c.refused.result c.in_ok-kind-in-Err.ensures c.in-Err.ensures.refused
    c.tell_fault_by.ensures.line c.refused.ensures.status
