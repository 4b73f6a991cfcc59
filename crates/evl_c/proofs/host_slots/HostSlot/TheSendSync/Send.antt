use base.Shift.{Keyless}
use denote.RawPtr.{Ptr}
use denote.Param.Send.{IsSend, AllSend, owning_send, sendable}
use denote.Struct.Owning.{fields}
use Rattle.std.specs.Prelude.{Option, None, Some}
use Rattle.std.specs.Global.{Global}
use Rattle.evl_hosts.specs.contracts.hosts.Host as Inner
use Rattle.evl_c.specs.HostOwning.{slot_owns}
use Rattle.evl_c.specs.contracts.host_slots.HostSlot.{the_row, the_type}
use Rattle.evl_c.proofs.BoxLaws.{box_keyless}
use Rattle.evl_c.proofs.HostCrossing.{host_send}

keyless : (alloc : Global) (at : Ptr) (held : Option Inner.the_row.Denot) → Keyless (slot_owns alloc at held)
keyless alloc at None = tt
keyless alloc at (Some inner) = box_keyless Inner.the_row host_send alloc at inner

pub send : IsSend the_row
send =
    let all : AllSend (fields the_type) = (search sendable, (search sendable, tt)) in
    owning_send the_type all (λ d. keyless d.alloc d.at d.held) (λ k d w. tt)
