use Rattle.lab_orders.proofs.Ends.{no_more_orders}
use Rattle.lab_orders.proofs.laws.orders_end.Goals as goal

pub returns : goal.returns
returns g c = λ m s k more none. no_more_orders m s k none more
