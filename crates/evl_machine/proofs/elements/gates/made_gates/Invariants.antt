use Rattle.std.proofs.Common.{◌≡◌, map, take}
use Rattle.std.specs.List.{range_with_len}
use Rattle.evl_words.specs.GateCalls.{new_seat}
use Rattle.evl_machine.specs.stax_locks.StaxSeats.{AreGatesOf}
use Rattle.evl_machine.proofs.elements.gates.made_gates.Given as goal

abbrev pub invariant-loop-limit : goal.invariant-loop-limit
invariant-loop-limit g l = AreGatesOf (take l.limit-index l.limits) l.threads l.gates.items × (map (λ v. v.items) l.lists.items ≡ map (λ k. map (λ gate. new_seat gate k) l.gates.items) (range_with_len 0 l.threads))
