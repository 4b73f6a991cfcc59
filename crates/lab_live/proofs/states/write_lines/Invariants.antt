use Rattle.std.proofs.Common.{◌≡◌, ◌++◌, filter, string_bytes}
use Rattle.evl_pipeline.specs.Lines.{is_pending}
use Rattle.lab_live.specs.States.{numbers_below, is_none, pending_so_far}
use Rattle.lab_live.proofs.states.write_lines.Given as goal

abbrev pub invariant-loop-line : goal.invariant-loop-line
invariant-loop-line g l = record {
  lines : string_bytes l.told ≡ string_bytes l.initial.told ++ pending_so_far (filter (is_pending l.kernel.history.state.lines l.stage) (numbers_below l.line));
  none : l.is_quiet ≡ is_none (filter (is_pending l.kernel.history.state.lines l.stage) (numbers_below l.line));
}
