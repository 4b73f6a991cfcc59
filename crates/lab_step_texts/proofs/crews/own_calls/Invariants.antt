use Rattle.std.proofs.Common.{◌≡◌, ◌++◌, drop}
use Rattle.lab_step_texts.specs.Calls.{own_calls}
use Rattle.lab_step_texts.proofs.crews.own_calls.Given as goal

abbrev pub invariant-loop-made : goal.invariant-loop-made
invariant-loop-made l = l.own.items ++ own_calls l.who (drop l.made-index l.calls) ≡ own_calls l.who l.calls
