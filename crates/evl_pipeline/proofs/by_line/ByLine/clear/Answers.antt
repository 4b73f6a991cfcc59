use Rattle.std.proofs.Common.{refl}
use Rattle.evl_pipeline.proofs.by_line.ByLine.clear.Goals as goal

pub returns : goal.returns
returns g c = record { empty = rw c.clear.ensures.items refl }
