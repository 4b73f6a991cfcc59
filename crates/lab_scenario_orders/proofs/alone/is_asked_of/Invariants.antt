use Rattle.std.proofs.Common.{◌≡◌, false, take}
use Rattle.lab_scenario_orders.specs.AskingAlone.{is_asked_of}
use Rattle.lab_scenario_orders.proofs.alone.is_asked_of.Given as goal

abbrev pub invariant-loop-one : goal.invariant-loop-one
invariant-loop-one l = is_asked_of (take l.one-index l.never) l.caller ≡ false
