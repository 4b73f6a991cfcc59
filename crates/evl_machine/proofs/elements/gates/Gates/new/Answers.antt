use Rattle.std.proofs.Common.{map}
use Rattle.evl_words.specs.GateCalls.{new_seat}
use Rattle.evl_machine.specs.stax_locks.StaxSeats.{AreFresh}
use Rattle.evl_core.proofs.words.DealLaws.{each-dealt}
use Rattle.evl_machine.proofs.stax_locks.StaxLaws.{fresh}
use Rattle.evl_machine.proofs.elements.gates.Gates.new.Goals as goal

pub counted-requires : goal.counted-requires
counted-requires g c = each-dealt AreFresh c.in_ok-gates.lists.items c.args.threads (λ k. map (λ gate. new_seat gate k) c.in_ok-gates.gates.items) c.in_ok-gates.ensures.seats (fresh c.args.limits.now c.args.threads c.in_ok-gates.gates.items c.requires.few c.in_ok-gates.ensures.gates)
