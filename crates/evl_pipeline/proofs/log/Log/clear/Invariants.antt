use Rattle.std.proofs.Common.{length}
use Rattle.evl_pipeline.proofs.log.Log.clear.Given as goal

abbrev pub decreases-loop-line : goal.decreases-loop-line
decreases-loop-line g l = length l.self
