use Rattle.std.proofs.Common.{arith}
use Rattle.evl_pipeline.proofs.ByLineLaws.{blank-past}
use Rattle.evl_pipeline.proofs.by_line.ByLine.reach.Goals as goal

pub returns-clause-blank : goal.returns-clause-blank
returns-clause-blank g c = rw (← c.self.view_is) (λ line past. blank-past g.T.Blank.blank c.self.inside.written.items line (omega (arith, c.len.ensures, past)))
