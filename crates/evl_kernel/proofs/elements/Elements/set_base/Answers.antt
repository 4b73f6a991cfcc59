use Rattle.evl_kernel.proofs.elements.Elements.set_base.Goals as goal

pub returns-clause-noted : goal.returns-clause-noted
returns-clause-noted g c = rw (← c.self.view_is) c.set_base_noting.ensures.noted
