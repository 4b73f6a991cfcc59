use Rattle.std.proofs.Common.{◌≡◌, ◌≤◌, drop, max}
use Rattle.lab_moments.specs.Asked.{below_steps}
use Rattle.lab_moments.proofs.pending.below_steps.Given as goal

abbrev pub invariant-loop-step : goal.invariant-loop-step
invariant-loop-step l = record {
  rest : max l.below (below_steps (drop l.step-index l.steps)) ≡ max 1 (below_steps l.steps);
  few : l.below ≤ 4096;
}
