use Rattle.std.proofs.Common.{◌≡◌, ◌++◌, map, take, drop, length}
use Rattle.evl_xbuf.specs.Xbufs.{Xbuf, opened_xbuf}
use Rattle.evl_kernel.proofs.elements.resetting.reset_xbufs.Given as goal

abbrev pub invariant-loop-i : goal.invariant-loop-i
invariant-loop-i g l = record {
  length : length l.xbufs.items ≡ length l.fn.xbufs.items;
  items : l.xbufs.items ≡ map (λ (x : Xbuf). opened_xbuf x.inbound.size x.outbound.size) (take l.i l.fn.xbufs.items) ++ drop l.i l.fn.xbufs.items;
}
