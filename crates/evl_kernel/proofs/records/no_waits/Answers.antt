use Rattle.std.proofs.Common.{None, ◌++◌, ◌∷◌, [], ap, ◌∙◌}
use Rattle.std.proofs.lemmas.List.{replicate_more}
use Rattle.evl_kernel.proofs.records.no_waits.Goals as goal

pub loop-preserved : goal.loop-preserved
loop-preserved g c = c.in-Ok.ensures.more ∙ ap (λ waits. waits ++ None ∷ []) c.loop.invariant ∙ replicate_more c.loop.counter None
