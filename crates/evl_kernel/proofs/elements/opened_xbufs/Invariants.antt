use Rattle.std.proofs.Common.{◌≡◌, map, take}
use Rattle.evl_xbuf.specs.Xbufs as cross_buffers
use Rattle.evl_kernel.proofs.elements.opened_xbufs.Given as goal

abbrev pub invariant-loop-pair : goal.invariant-loop-pair
invariant-loop-pair g l = l.xbufs.items ≡ map (λ pair. cross_buffers.opened_xbuf pair.0 pair.1) (take l.pair-index l.sizes)
