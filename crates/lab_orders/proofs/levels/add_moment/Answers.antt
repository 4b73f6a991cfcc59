use Rattle.std.proofs.Common.{refl}
use Rattle.lab_orders.proofs.levels.add_moment.Goals as goal

pub returns-in-Ok-clause-node : goal.returns-in-Ok-clause-node
returns-in-Ok-clause-node g c = (
  record { at = c.args.moment; count = c.args.before.now.count; order = c.in_ok-order.order },
  c.in-Ok.ensures.nodes,
  refl,
  refl,
  cc (c.in_ok-order.ensures, c.as_slice.ensures.value),
)
