use Rattle.std.proofs.Common.{◌≡◌, map, take}
use Rattle.lab_scenario_orders.specs.AskingAlone.{is_asked_of}
use Rattle.lab_scenario_orders.proofs.alone.asked_of.Given as goal

abbrev pub invariant-loop-caller : goal.invariant-loop-caller
invariant-loop-caller l = l.asked.items ≡ map (is_asked_of l.ask.never.items) (take l.caller-index l.callers.callers.items)
