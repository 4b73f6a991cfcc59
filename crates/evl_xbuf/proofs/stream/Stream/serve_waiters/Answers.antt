use Rattle.evl_xbuf.specs.Streams.{Stream}
use Rattle.evl_xbuf.proofs.ServingLaws.{serves-begin}
use Rattle.evl_xbuf.proofs.stream.Stream.serve_waiters.Goals as goal

pub loop-self-init : goal.loop-self-init
loop-self-init g c =
    let s : Stream = record { size = c.self.inside.there.capacity; there = c.self.inside.there.items; writers = c.self.inside.writers.items; readers = c.self.inside.readers.items } in
    rw (c.requires.nobody, ← c.self.view_is) (serves-begin s c.self.invariant.0 (rw (← c.self.view_is) at c.requires.one_queue))
