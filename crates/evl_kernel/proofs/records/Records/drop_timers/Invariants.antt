use Rattle.std.proofs.Common.{◌≡◌, ◌<◌, ℕ, None, length}
use Rattle.evl_base.specs.declared.stage.Stage.{Stage}
use Rattle.evl_clock.specs.Clocks.{timer_at}
use Rattle.evl_clock.specs.Limits.{timer_count}
use Rattle.evl_pipeline.specs.Lines.{installed_at}
use Rattle.evl_kernel.specs.state.Homecomings.{ComesHome}
use Rattle.evl_kernel.specs.state.Records.{KeepsCallbacks, state_of}
use Rattle.evl_kernel.proofs.records.Records.drop_timers.Given as goal

abbrev pub invariant-loop-timer : goal.invariant-loop-timer
invariant-loop-timer g l = record {
  comes : ComesHome (state_of l.fn.self) (state_of l.self);
  dropped : (timer : ℕ) → timer < l.timer → timer_at (state_of l.self).clock timer ≡ None;
  size : length (state_of l.self).clock.timers ≡ timer_count;
  lines : (stage : Stage) (line : ℕ) → installed_at (state_of l.fn.self).lines stage line ≡ None → installed_at (state_of l.self).lines stage line ≡ None;
  stands : KeepsCallbacks l.fn.self l.self;
}
