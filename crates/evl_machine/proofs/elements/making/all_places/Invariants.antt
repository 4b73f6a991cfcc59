use Rattle.std.proofs.Common.{◌≡◌, map}
use Rattle.std.specs.List.{range_with_len}
use Rattle.evl_core.specs.words.MutexPlaces.{new_places}
use Rattle.evl_machine.proofs.elements.making.all_places.Given as goal

abbrev pub invariant-loop-thread : goal.invariant-loop-thread
invariant-loop-thread g l = l.all.items ≡ map (new_places l.mutexes) (range_with_len 0 l.thread)
