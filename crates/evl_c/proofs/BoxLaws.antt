-- All that a slot leads to may go to another host thread: a kernel with its board, and what is owned of a box whose value may.
use mathlib.Core.List.{[]}
use base.Shift.{Keyless}
use denote.RattleType.{RattleType}
use denote.RawPtr.{Ptr}
use denote.Param.Send.{IsSend, sendable, view_send}
use Rattle.std.specs.Box.Ownership.{box_owns}
use Rattle.std.specs.Global.{Global}
use Rattle.std.specs.contracts.alloc.Global as Heap
use Rattle.std.specs.contracts.impls.GlobalAllocator.TheImpl.{ghosts}
use Rattle.std.proofs.Crossing as heap
use Rattle.evl_base.proofs.Crossing.{board_send, declared_send}
use Rattle.evl_c.proofs.HostCrossing.{planned_send}
use Rattle.evl_kernel.proofs.Crossing.{kernel_send}
use Rattle.evl_plans.specs.contracts.kernels.PlannedKernel as PlannedKernel
use Rattle.evl_plans.specs.contracts.planned.Planned as Planned
use Rattle.evl_c.specs.contracts.held.Held as Held

planned_kernel_send : IsSend PlannedKernel.the_row
planned_kernel_send = view_send _ _ _ _ _ (declared_send PlannedKernel.TheInside.the_type (kernel_send Planned.the_row Heap.the_row ghosts planned_send heap.send heap.frees, tt))

pub held_send : IsSend Held.the_row
held_send = view_send _ _ _ _ _ (declared_send Held.TheInside.the_type (board_send, (search sendable depth 20, (planned_kernel_send, tt))))

-- what a box owns beside its fields
pub box_keyless : (T : RattleType) → IsSend T → (alloc : Global) (at : Ptr) (held : T.Denot) → Keyless (box_owns (ghosts.dealloc_token alloc) T at held)
box_keyless T s alloc at held = ((heap.Box-send T s).owned (record { ptr = at; alloc = alloc; value = held }) []).1
