use Rattle.evl_c.proofs.given.callers_of.Goals as goal

pub returns-in-Ok-clause-plain : goal.returns-in-Ok-clause-plain
returns-in-Ok-clause-plain c = rw c.in-Ok.ensures.text at c.callers_given.ensures.plain
