use Rattle.evl_kernel.proofs.elements.Elements.raise.Goals as goal

pub returns-clause-noted : goal.returns-clause-noted
returns-clause-noted g c = rw (← c.self.view_is) c.raise_noting.ensures.noted
