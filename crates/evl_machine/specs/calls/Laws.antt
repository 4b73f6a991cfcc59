-- The laws of any two callers of a machine.
use Rattle.std.specs.Prelude.{◌≡◌, ℕ, Some, slice_get}
use mathlib.Core.Option.{some}
use lib.ListN.{get_elem?}
use Rattle.evl_base.specs.declared.stage.Stage.{Stage}
use Rattle.evl_words.specs.GateCalls.{SeatState}
use Rattle.evl_words.specs.GateWorld.{GateWorld, IsGateWorld}
use Rattle.evl_machine.specs.callers.Handles.{CallerState}
use Rattle.evl_machine.specs.calls.Calls.{HoldsAtItsStage, stage_of_caller}

-- two that hold one stax are on one stage, whatever its seats have done
abbrev pub CallersAgree : Type 0 → Type 0
CallersAgree C =
    (limit : ℕ) (w : GateWorld) → IsGateWorld limit w → (c d : CallerState C) → HoldsAtItsStage c → HoldsAtItsStage d
    → (i j k : ℕ) (s t : SeatState) → slice_get c.staxes i ≡ Some s → slice_get d.staxes i ≡ Some t
    → get_elem? w.views j ≡ some s.view → get_elem? w.views k ≡ some t.view → (p q : Stage) → s.view.held.stage ≡ Some p
    → t.view.held.stage ≡ Some q → stage_of_caller c ≡ stage_of_caller d
