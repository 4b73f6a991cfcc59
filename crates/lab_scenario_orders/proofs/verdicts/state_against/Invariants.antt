use Rattle.std.proofs.Common.{◌≡◌, drop}
use Rattle.lab_scenario_orders.specs.Verdicts.{state_against}
use Rattle.lab_scenario_orders.proofs.verdicts.state_against.Given as goal

abbrev pub invariant-loop-place : goal.invariant-loop-place
invariant-loop-place l = state_against l.firsts l.is_whole l.place (drop l.place l.watches) ≡ state_against l.firsts l.is_whole 0 l.watches
