use Rattle.evl_c.proofs.OrderLemmas.{found_impossible}
use Rattle.evl_c.proofs.orders.impossible_in.Goals as goal

pub returns : goal.returns
returns c = found_impossible _ c.args.callers.now c.args.ask.now c.first_impossible.result c.first_impossible.ensures
