use Rattle.std.proofs.Common.{◌≡◌}
use Rattle.evl_core.specs.words.MutexPlaces.{new_places}
use Rattle.evl_core.proofs.mutex_places.MutexPlaces.of.Given as goal

abbrev pub invariant-loop-mutex : goal.invariant-loop-mutex
invariant-loop-mutex g l = l.places.items ≡ new_places l.mutex l.thread
