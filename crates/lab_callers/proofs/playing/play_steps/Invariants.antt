use Rattle.std.proofs.Common.{◌≡◌, ◌+◌, length}
use Rattle.lab_callers.specs.Plays.{HaveMade, run_of}
use Rattle.lab_callers.proofs.playing.play_steps.Given as goal

abbrev pub invariant-loop-step : goal.invariant-loop-step
invariant-loop-step g l = record {
  same : l.crew.machine ≡ l.initial.crew.machine;
  left : l.number + length l.step-iterator.rest.items ≡ l.count;
  made : HaveMade l.initial.crew.machine.first.limit (run_of l.initial.crew l.initial.report) l.fn.steps.items l.initial.report.text l.report.text (run_of l.crew l.report) l.number l.step-iterator.rest.items;
}
