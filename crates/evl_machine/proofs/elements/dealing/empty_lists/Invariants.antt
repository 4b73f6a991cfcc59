use Rattle.std.proofs.Common.{◌≡◌, map, []}
use Rattle.std.specs.List.{range_with_len}
use Rattle.evl_machine.proofs.elements.dealing.empty_lists.Given as goal

abbrev pub invariant-loop-thread : goal.invariant-loop-thread
invariant-loop-thread g l = map (λ v. v.items) l.lists.items ≡ map (λ k. []) (range_with_len 0 l._thread)
