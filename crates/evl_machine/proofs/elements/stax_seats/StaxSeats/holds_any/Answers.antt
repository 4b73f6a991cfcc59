use Rattle.std.proofs.Common.{ap, ◌∙◌, nat_lt}
use Rattle.evl_machine.specs.stax_locks.StaxSeats.{holds_stax, is_held, stax_passes}
use Rattle.evl_core.proofs.words.SeatLists.{some-counted}
use Rattle.evl_machine.proofs.stax_locks.StaxLaws.{has_passes}
use Rattle.evl_machine.proofs.elements.stax_seats.StaxSeats.holds_any.Goals as goal

pub returns : goal.returns
returns g c = record { holds = ap (nat_lt 0) c.self.invariant.counted ∙ some-counted stax_passes is_held has_passes c.self.inside.seats.items ∙ ap holds_stax c.self.view_is }
