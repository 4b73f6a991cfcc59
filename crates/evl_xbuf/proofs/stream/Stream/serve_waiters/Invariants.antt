use Rattle.evl_xbuf.specs.Streams.{waiting}
use Rattle.evl_xbuf.specs.Serving.{Serves}
use Rattle.evl_xbuf.proofs.stream.Stream.serve_waiters.Given as goal

abbrev pub invariant-loop-self : goal.invariant-loop-self
invariant-loop-self g l = Serves l.initial.self l.told l.self

abbrev pub decreases-loop-self : goal.decreases-loop-self
decreases-loop-self g l = waiting l.self
