use Rattle.std.proofs.Common.{◌≡◌, ℕ, drop, true, false}
use Rattle.evl_sync.specs.FlagGroups.{pairs}
use Rattle.evl_kernel.specs.declared.waits.Awaited.{Awaited}
use Rattle.evl_kernel.specs.calls.Elements.{elements}
use Rattle.evl_kernel.specs.calls.FlagGroups.{all_served}
use Rattle.evl_kernel.specs.waiting.Standing.{is_served, stands_for}
use Rattle.evl_kernel.specs.waiting.Waits.{all_woken}
use Rattle.evl_kernel.specs.state.Records.{KeepsCallbacks, state_of}
use Rattle.evl_kernel.proofs.records.Records.wake_all.Given as goal

abbrev pub invariant-loop-one : goal.invariant-loop-one
invariant-loop-one g l = record {
  woken : all_woken (state_of l.self) (all_served (pairs (drop l.one-index l.served))) ≡ all_woken (state_of l.fn.self) (all_served (pairs l.served));
  away : (thread : ℕ) → is_served thread (all_served (pairs (drop l.one-index l.served))) ≡ true → (on : Awaited) → stands_for (elements (state_of l.self)) on thread ≡ false;
  stands : KeepsCallbacks l.fn.self l.self;
}
