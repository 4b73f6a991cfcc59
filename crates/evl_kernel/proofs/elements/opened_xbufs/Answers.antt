use Rattle.std.proofs.Common.{ℕ}
use Rattle.evl_base.specs.Limits.{sizes_fit}
use Rattle.evl_xbuf.specs.Xbufs as cross_buffers
use Rattle.evl_kernel.proofs.calls.XbufOpenings.{all_here, one_made}
use Rattle.evl_kernel.proofs.elements.opened_xbufs.Goals as goal

pub opened_xbuf-requires : goal.opened_xbuf-requires
opened_xbuf-requires g c = record { fit = all_here sizes_fit c.args.sizes.now c.loop-pair.pair-index (0, 0) c.requires.fit c.loop-pair-test.true }

pub loop-pair-preserved : goal.loop-pair-preserved
loop-pair-preserved g c =
    one_made (λ (pair : ℕ × ℕ). cross_buffers.opened_xbuf pair.0 pair.1) c.args.sizes.now c.loop-pair.pair-index (0, 0) c.loop-pair.xbufs.items c.push.new.self.items c.in-Ok.xbuf
    c.loop-pair-test.true c.loop-pair.invariant c.in-Ok.ensures.xbuf c.in-Ok-push.ensures.items
