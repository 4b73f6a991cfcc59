-- A handle of C's may go to another host thread, with the kernel or the caller that it leads to.
use denote.Param.Send.{IsSend, sendable}
use Rattle.evl_base.proofs.Crossing.{declared_send}
use Rattle.evl_c.specs.contracts.handles.KernelHandle as KernelHandle
use Rattle.evl_c.specs.contracts.host_handles.HostHandle as HostHandle
use Rattle.evl_c.proofs.host_slots.HostSlot.TheSendSync.{the_send as host_slot_send}
use Rattle.evl_c.proofs.slots.Slot.TheSendSync.{the_send as slot_send}

pub kernel_handle_send : IsSend KernelHandle.the_row
kernel_handle_send = declared_send KernelHandle.the_type (search sendable, (slot_send, tt))

pub host_handle_send : IsSend HostHandle.the_row
host_handle_send = declared_send HostHandle.the_type (search sendable, (host_slot_send, tt))
