use Rattle.std.proofs.Common.{◌≡◌, ℕ, drop, map, true, false}
use Rattle.evl_kernel.specs.declared.waits.Awaited.{Awaited}
use Rattle.evl_kernel.specs.calls.Elements.{elements}
use Rattle.evl_kernel.specs.calls.CrossBuffers.{service_told}
use Rattle.evl_kernel.specs.waiting.Standing.{is_served, stands_for}
use Rattle.evl_kernel.specs.waiting.Waits.{all_woken}
use Rattle.evl_kernel.specs.state.Records.{KeepsCallbacks, state_of}
use Rattle.evl_kernel.proofs.records.Records.wake_served.Given as goal

abbrev pub invariant-loop-place : goal.invariant-loop-place
invariant-loop-place g l = record {
  woken : all_woken (state_of l.self) (map service_told (drop l.place l.served)) ≡ all_woken (state_of l.fn.self) (map service_told l.served);
  away : (thread : ℕ) → is_served thread (map service_told (drop l.place l.served)) ≡ true → (on : Awaited) → stands_for (elements (state_of l.self)) on thread ≡ false;
  stands : KeepsCallbacks l.fn.self l.self;
}
