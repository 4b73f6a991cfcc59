use Rattle.std.proofs.Common.{arith}
use Rattle.lab_scenario_orders.proofs.kernels.copied_call.Goals as goal

pub copied-requires : goal.copied-requires
copied-requires c = omega (arith, c.boxes_in.ensures, c.in-Ok.ensures.there)
