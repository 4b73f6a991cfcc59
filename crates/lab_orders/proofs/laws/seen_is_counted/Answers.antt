use Rattle.lab_orders.proofs.SeeingLaws.{what_is_seen}
use Rattle.lab_orders.proofs.laws.seen_is_counted.Goals as goal

pub returns : goal.returns
returns g c = λ m n see seen s k. what_is_seen m n see seen s k
