use Rattle.std.proofs.Common.{sym, ◌∙◌, arith}
use Rattle.evl_pipeline.proofs.NumberSetLaws.{length-remove_least, least-none}
use Rattle.evl_pipeline.proofs.log.Log.clear.Goals as goal

pub loop-line-smaller : goal.loop-line-smaller
loop-line-smaller g c = rw c.remove.ensures.removed (omega (arith, length-remove_least c.loop-line.self c.in-Some.line (sym c.in-Some.ensures.least)))

pub returns : goal.returns
returns g c = record { empty = least-none c.loop-line.self (sym c.least.ensures.least ∙ c.in_default.is) }
