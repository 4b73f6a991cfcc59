use Rattle.lab_orders.proofs.Merges.{places_along}
use Rattle.lab_orders.proofs.laws.orders_are_merges.Goals as goal

pub returns : goal.returns
returns g c = λ m place counts s t order e d. places_along m place counts order s t e d
