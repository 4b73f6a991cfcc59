use Rattle.evl_kernel.proofs.elements.Elements.leave.Goals as goal

pub returns-in-Mutex-clause-noted : goal.returns-in-Mutex-clause-noted
returns-in-Mutex-clause-noted g c = rw (← c.self.view_is) c.leave_noting.ensures.noted
