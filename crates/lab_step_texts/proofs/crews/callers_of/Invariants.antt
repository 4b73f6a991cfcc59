use Rattle.std.proofs.Common.{◌≡◌, ℕ, length, Some}
use Rattle.std.specs.Prelude.{slice_get}
use Rattle.lab_step_orders.specs.declared.crews.CrewCaller.{CrewCaller}
use Rattle.lab_step_texts.specs.Crews.{caller_of}
use Rattle.lab_step_texts.proofs.crews.callers_of.Given as goal

abbrev pub invariant-loop-who : goal.invariant-loop-who
invariant-loop-who l = record {
  each : length l.all.items ≡ l.who;
  callers : (k : ℕ) (caller : CrewCaller) → slice_get l.all.items k ≡ Some caller → caller_of l.setup l.steps l.ways l.calls k caller;
}
