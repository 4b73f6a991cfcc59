use Rattle.std.proofs.Common.{◌∙◌}
use Rattle.evl_kernel.specs.state.Insides.{kernel_view}
use Rattle.evl_kernel.proofs.histories.StageLaws.{stranger_inband}
use Rattle.evl_kernel.proofs.kernel.KernelOf.stage.Goals as goal

pub returns-clause-outside : goal.returns-clause-outside
returns-clause-outside g c = rw (← c.self.view_is) (λ out. c.stage.ensures.stage ∙ stranger_inband (kernel_view c.self.inside).history c.self.invariant.legal c.args.thread.0 out)
