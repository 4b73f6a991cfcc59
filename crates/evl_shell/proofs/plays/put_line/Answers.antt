use Rattle.std.proofs.Common.{◌∙◌}
use Rattle.evl_shell.proofs.SinkLemmas.{Takes-all, Takes-part}
use Rattle.evl_shell.proofs.plays.put_line.Goals as goal

pub returns-in-Ok-clause-takes : goal.returns-in-Ok-clause-takes
returns-in-Ok-clause-takes g c = Takes-all _ _ _ _ (c.in-Ok.ensures.working ∙ c.requires.working) c.in-Ok.ensures.ok

pub returns-in-Err-clause-takes : goal.returns-in-Err-clause-takes
returns-in-Err-clause-takes g c = Takes-part _ _ _ _ c.in-Err.ensures.failed c.in-Err.ensures.part
