use Rattle.std.proofs.Common.{inl, inr}
use Rattle.lab_kinds.proofs.orders.found_in_steps.Goals as goal

pub returns-in_ok-found-in-Ok : goal.returns-in_ok-found-in-Ok
returns-in_ok-found-in-Ok c = inl (c.in-Ok.read, c.in-Ok.ensures.opens, c.in_ok-found-in-Ok.ensures)

pub returns-in_ok-found-in-Err : goal.returns-in_ok-found-in-Err
returns-in_ok-found-in-Err c = inr (c.in-Err.fault, c.in-Err.ensures.refused, c.in_ok-found-in-Err.ensures)
