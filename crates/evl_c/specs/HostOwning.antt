-- The things that the slot of a machine's caller owns.
use base.Fml.{Fml, ftrue}
use base.Stored.{Coded}
use denote.RawPtr.{Ptr}
use Rattle.std.specs.Prelude.{Option, None, Some}
use Rattle.std.specs.Box.Ownership.{box_owns}
use Rattle.std.specs.Coded.{coded_option}
use Rattle.std.specs.Global.{Global}
use Rattle.std.specs.contracts.impls.GlobalAllocator.TheImpl.{ghosts}
use Rattle.evl_hosts.specs.contracts.hosts.Host.{the_row}

-- the box that is there, if one is
abbrev pub slot_owns : Global → Ptr → Option the_row.Denot → Fml
slot_owns alloc at (Some held) = box_owns (ghosts.dealloc_token alloc) the_row at held
slot_owns alloc at None = ftrue

-- how the logic stores what is there
abbrev pub maybe_coded : Coded (Option the_row.Denot)
maybe_coded = coded_option the_row.coded
