use Rattle.std.proofs.Common.{◌≡◌, map}
use Rattle.evl_machine.proofs.elements.gates.counted.Given as goal

abbrev pub invariant-loop-list : goal.invariant-loop-list
invariant-loop-list g l = l.seats.items ≡ map (λ v. v.items) l.yielded
