use Rattle.std.proofs.Common.{◌≡◌, ◌++◌, drop}
use Rattle.lab_step_texts.specs.Extras.{own_ways}
use Rattle.lab_step_texts.proofs.crews.own_ways.Given as goal

abbrev pub invariant-loop-number : goal.invariant-loop-number
invariant-loop-number l = l.own.items ++ own_ways l.who l.ways l.number (drop l.number l.steps) ≡ own_ways l.who l.ways 0 l.steps
