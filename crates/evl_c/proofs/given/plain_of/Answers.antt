use Rattle.evl_c.proofs.given.plain_of.Goals as goal

pub returns-in-Ok-clause-plain : goal.returns-in-Ok-clause-plain
returns-in-Ok-clause-plain c = rw c.in-Ok.ensures.text at c.plain_given.ensures.plain
