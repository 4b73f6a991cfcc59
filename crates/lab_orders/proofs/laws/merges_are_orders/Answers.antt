use Rattle.lab_orders.proofs.Merges.{merges_lead}
use Rattle.lab_orders.proofs.laws.merges_are_orders.Goals as goal

pub returns : goal.returns
returns g c = λ m place ends counts free s order few. merges_lead m place counts ends free order s few
