-- The content of a handle.
use Rattle.std.specs.Prelude.{Option}
use Rattle.evl_kernel.specs.state.KernelViews.{KernelView}
use Rattle.evl_plans.specs.declared.planned.Planned.{Planned}
use Rattle.evl_c.specs.declared.handles.KernelHandle.{KernelHandle}

-- rule: A handle is dropped, or written over, only while it holds no kernel, so none is lost.
--   clauses: KernelHandle::{free, put}
-- the kernel that is there, if one is
abbrev pub kernel_held : KernelHandle → Option (KernelView Planned)
kernel_held handle = handle.slot.held
