use Rattle.std.proofs.Common.{◌≡◌, ◌<◌, ℕ, None}
use Rattle.evl_base.specs.declared.stage.Stage.{Stage}
use Rattle.evl_pipeline.specs.Lines.{installed_at}
use Rattle.evl_kernel.specs.state.Homecomings.{ComesHome}
use Rattle.evl_kernel.specs.state.Records.{KeepsCallbacks, state_of}
use Rattle.evl_kernel.proofs.records.Records.free_lines.Given as goal

abbrev pub invariant-loop-line : goal.invariant-loop-line
invariant-loop-line g l = record {
  comes : ComesHome (state_of l.fn.self) (state_of l.self);
  freed : (line : ℕ) → line < l.line → installed_at (state_of l.self).lines l.stage line ≡ None;
  others : (other : Stage) (line : ℕ) → installed_at (state_of l.fn.self).lines other line ≡ None → installed_at (state_of l.self).lines other line ≡ None;
  stands : KeepsCallbacks l.fn.self l.self;
}
