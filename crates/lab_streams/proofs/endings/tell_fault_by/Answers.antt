use Rattle.lab_streams.proofs.endings.tell_fault_by.Goals as goal

pub returns-in-Orders-clause-line : goal.returns-in-Orders-clause-line
returns-in-Orders-clause-line g c = rw c.in-Orders.is c.tell_other.ensures.line

pub returns-in-Callers-clause-line : goal.returns-in-Callers-clause-line
returns-in-Callers-clause-line g c = rw c.in-Callers.is c.tell_other-in-Callers.ensures.line
