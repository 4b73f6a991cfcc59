use Rattle.std.proofs.Common.{List, ap, inl, inr, map}
use Rattle.lab_faults.specs.Told.{fault_told}
use Rattle.lab_faults.specs.declared.found.Found.{Found}
use Rattle.lab_kinds.proofs.callers.check_callers.Goals as goal

pub returns-in-Ok : goal.returns-in-Ok
returns-in-Ok c = inl (c.in-Ok.read, c.in-Ok.ensures.opens, ap (λ (found : List Found). map fault_told found) c.new.ensures.items)

pub returns-in_ok-found-in-Err : goal.returns-in_ok-found-in-Err
returns-in_ok-found-in-Err c = inr (c.in-Err.fault, c.in-Err.ensures.refused, c.in_ok-found-in-Err.ensures)
