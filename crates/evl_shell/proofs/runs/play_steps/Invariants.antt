use Rattle.std.proofs.Common.{◌≡◌, false, ℕ, List, ◌++◌}
use Rattle.evl_kernel.specs.state.Callbacks.{AnswersByPlan}
use Rattle.evl_scenario.specs.Lines.{AreLines}
use Rattle.evl_shell.specs.Moments.{moment}
use Rattle.evl_shell.specs.Runs.{lines_from}
use Rattle.evl_shell.specs.Sinks.{Passes}
use Rattle.evl_shell.proofs.runs.play_steps.Given as goal

abbrev pub invariant-loop-step : goal.invariant-loop-step
invariant-loop-step g l =
    AnswersByPlan g.C.Handler.declared g.C.Handler.plan l.kernel.callbacks
    × (g.S.Sink.has_failed l.out ≡ false)
    × (done : List ℕ)
    × (done ++ lines_from l.kernel.limit (moment l.kernel) l.step-iterator.rest.items ≡ lines_from l.initial.kernel.limit (moment l.initial.kernel) l.fn.steps.items)
    × AreLines done
    × Passes (g.S.Sink.told l.initial.out) l.initial.chunks (g.S.Sink.told l.out) l.chunks done
