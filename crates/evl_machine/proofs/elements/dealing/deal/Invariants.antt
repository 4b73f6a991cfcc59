use Rattle.std.proofs.Common.{◌≡◌, ◌≤◌, map, length}
use Rattle.evl_core.specs.words.AtSeats.{dealt}
use Rattle.evl_machine.proofs.elements.dealing.deal.Given as goal

abbrev pub invariant-loop-seat : goal.invariant-loop-seat
invariant-loop-seat g l = (length l.seats.items ≤ length l.lists.items) × (dealt (map (λ v. v.items) l.lists.items) l.seats.items ≡ dealt (map (λ v. v.items) l.initial.lists.items) l.initial.seats.items)

abbrev pub decreases-loop-seat : goal.decreases-loop-seat
decreases-loop-seat g l = length l.seats.items
