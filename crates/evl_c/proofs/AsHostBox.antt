-- The seal of a machine's caller and its parts own what a box at the same types owns.
use mir.Syntax.{impl, tnil, dnil}
use mathlib.Core.List.{[]}
use denote.Signature.{Slot, plain}
use Rattle.std.proofs.BoxSteps.Form.{Bx}
use Rattle.std.specs.contracts.alloc.Global as Heap
use Rattle.std.specs.contracts.impls.GlobalAllocator.TheImpl.{ghosts, dict}
use Rattle.std.proofs.alloc.Global.TheLaws as heap
use Rattle.evl_hosts.specs.contracts.hosts.Host as Home
use Rattle.evl_hosts.proofs.hosts.Host.TheLaws as home
use Rattle.evl_c.specs.contracts.parts.Parts as Parts
use Rattle.evl_c.specs.contracts.host_slots.HostSlot as Sealed

abbrev pub E : Bx
E = record { row = Home.the_row; laws = home.the_row_laws; al = record { row = Heap.the_row; laws = heap.the_row_laws; g = ghosts; d = dict; drops = impl [] tnil dnil } }

abbrev pub FromParts : Slot 0
FromParts = plain (λ _. Parts.the_row Home.the_row Heap.the_row ghosts)

abbrev pub FromSeal : Slot 0
FromSeal = plain (λ _. Sealed.the_row)
