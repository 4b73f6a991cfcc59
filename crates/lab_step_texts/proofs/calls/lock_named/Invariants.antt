use Rattle.std.proofs.Common.{◌≡◌, None, drop}
use Rattle.lab_step_texts.specs.Calls.{lock_named}
use Rattle.lab_step_texts.proofs.calls.lock_named.Given as goal

abbrev pub invariant-loop-step : goal.invariant-loop-step
invariant-loop-step l = lock_named l.who.0 l.name l.found (drop l.step-index l.before) ≡ lock_named l.who.0 l.name None l.before
