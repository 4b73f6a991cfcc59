use Rattle.std.proofs.Common.{◌∙◌}
use Rattle.evl_kernel.specs.state.Insides.{kernel_view}
use Rattle.evl_kernel.proofs.waiting.WaitPlaces.{nobody_timed_out}
use Rattle.evl_kernel.proofs.kernel.KernelOf.timed_out.Goals as goal

pub returns-clause-outside : goal.returns-clause-outside
returns-clause-outside g c = rw (← c.self.view_is) (λ out. c.timed_out.ensures.ended ∙ nobody_timed_out (kernel_view c.self.inside).history c.self.invariant.legal c.args.thread.0 out)
