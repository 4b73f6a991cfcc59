use Rattle.std.proofs.Common.{◌≡◌, false, take}
use Rattle.lab_scenario_orders.specs.Asks.{is_caller_text}
use Rattle.lab_scenario_orders.proofs.order_texts.caller_of.Given as goal

abbrev pub invariant-loop-number : goal.invariant-loop-number
invariant-loop-number l = is_caller_text (take l.number l.callers.callers.items) l.who ≡ false
