use Rattle.std.proofs.Common.{◌∙◌}
use Rattle.evl_kernel.specs.state.Insides.{kernel_view}
use Rattle.evl_kernel.proofs.waiting.WaitPlaces.{nobody_ended}
use Rattle.evl_kernel.proofs.kernel.KernelOf.finished.Goals as goal

pub returns-clause-outside : goal.returns-clause-outside
returns-clause-outside g c = rw (← c.self.view_is) (λ out. c.finished.ensures.ended ∙ nobody_ended (kernel_view c.self.inside).history c.self.invariant.legal c.args.thread.0 out)
