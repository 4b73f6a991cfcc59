use Rattle.std.proofs.Common.{◌≡◌, drop}
use Rattle.lab_schedules.specs.Bounds.{computed_in}
use Rattle.lab_schedules.proofs.bounds.computes_for.Given as goal

abbrev pub invariant-loop-act : goal.invariant-loop-act
invariant-loop-act l = computed_in l.sum (drop l.act-index l.is.does.items) ≡ computed_in 0 l.is.does.items
