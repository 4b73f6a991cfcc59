use Rattle.std.proofs.Common.{◌∙◌}
use Rattle.evl_kernel.specs.state.Insides.{kernel_view}
use Rattle.evl_kernel.proofs.histories.MutexPlaces.{nobody_awaits}
use Rattle.evl_kernel.proofs.kernel.KernelOf.waiters.Goals as goal

pub returns-clause-outside : goal.returns-clause-outside
returns-clause-outside g c = rw (← c.self.view_is) (λ out. c.waiters.ensures.waiters ∙ nobody_awaits (kernel_view c.self.inside).history c.self.invariant.legal c.args.mutex.0 out)
