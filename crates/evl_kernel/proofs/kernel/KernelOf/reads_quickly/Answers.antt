use Rattle.std.proofs.Common.{refl}
use Rattle.evl_kernel.specs.state.Insides.{kernel_view}
use Rattle.evl_kernel.proofs.state.OnePlaceLaws.{are_in_one_place}
use Rattle.evl_kernel.proofs.kernel.KernelOf.reads_quickly.Goals as goal

pub returns-in_default-clause-legal : goal.returns-in_default-clause-legal
returns-in_default-clause-legal g c = rw (← c.self.view_is) c.self.invariant.legal

pub returns-in_default-clause-places : goal.returns-in_default-clause-places
returns-in_default-clause-places g c = rw (← c.self.view_is) (are_in_one_place c.self.inside.records (kernel_view c.self.inside).history c.self.invariant.legal refl refl)
