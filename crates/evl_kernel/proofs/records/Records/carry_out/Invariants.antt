use Rattle.std.proofs.Common.{◌≡◌, drop}
use Rattle.evl_kernel.specs.settling.Settling.{all_acted}
use Rattle.evl_kernel.specs.state.Records.{KeepsCallbacks, state_of}
use Rattle.evl_kernel.proofs.records.Records.carry_out.Given as goal

abbrev pub invariant-loop-action : goal.invariant-loop-action
invariant-loop-action g l = record {
  acted : all_acted (state_of l.self) l.line.0 (drop l.action-index l.actions) ≡ all_acted (state_of l.fn.self) l.line.0 l.actions;
  stands : KeepsCallbacks l.fn.self l.self;
}
