use Rattle.std.proofs.Common.{◌≡◌, ◌+◌, [], drop, take}
use Rattle.lab_step_texts.specs.Calls.{unattached}
use Rattle.lab_step_texts.proofs.crews.unattached.Given as goal

abbrev pub invariant-loop-i : goal.invariant-loop-i
invariant-loop-i l = unattached l.threads (l.i + 1) (take l.i l.setup) (drop l.i l.setup) ≡ unattached l.threads 1 [] l.setup
