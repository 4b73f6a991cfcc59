use Rattle.std.proofs.Common.{ap, arith}
use Rattle.lab_orders.specs.Tallies.{told_weight}
use Rattle.lab_asks.proofs.step_answers.answers_of.Goals as goal

pub put_callers-requires : goal.put_callers-requires
put_callers-requires c = omega (arith, ap (told_weight (λ told. 1)) c.as_slice.ensures.value, c.requires, c.know_count.ensures)
