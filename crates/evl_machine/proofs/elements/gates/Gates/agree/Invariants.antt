use Rattle.std.proofs.Common.{◌≡◌, ◌<◌, ℕ, Some, slice_get}
use Rattle.evl_words.specs.GateCalls.{AgreeAtGate, SeatState}
use Rattle.evl_machine.proofs.elements.gates.Gates.agree.Given as goal

abbrev pub invariant-loop-place : goal.invariant-loop-place
invariant-loop-place g l = record {
  one : l.one-inside.seats.items ≡ l.initial.one-inside.seats.items;
  other : l.other-inside.seats.items ≡ l.initial.other-inside.seats.items;
  held : (l.one-inside.held ≡ l.initial.one-inside.held) × (l.other-inside.held ≡ l.initial.other-inside.held);
  agree : (i : ℕ) (p q : SeatState) → i < l.place → slice_get l.initial.one-inside.seats.items i ≡ Some p → slice_get l.initial.other-inside.seats.items i ≡ Some q → AgreeAtGate p q;
}
