use Rattle.std.proofs.Common.{◌≡◌, drop}
use Rattle.lab_scenario_orders.specs.Asks.{is_caller_text}
use Rattle.lab_scenario_orders.proofs.nevers.is_name.Given as goal

abbrev pub invariant-loop-caller : goal.invariant-loop-caller
invariant-loop-caller l = is_caller_text (drop l.caller-index l.callers) l.who ≡ is_caller_text l.callers l.who
