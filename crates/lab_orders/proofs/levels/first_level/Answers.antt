use Rattle.std.proofs.Common.{refl}
use Rattle.lab_orders.proofs.levels.first_level.Goals as goal

pub returns-in-Ok : goal.returns-in-Ok
returns-in-Ok g c = (record { at = c.args.moment; count = 1; order = c.new.result }, rw c.new-level.ensures.nodes at c.in-Ok.ensures.nodes, refl, refl, c.new.ensures.items)
