-- A stax call's effect on its caller.
use Rattle.std.specs.Prelude.{◌≡◌, List}
use Rattle.evl_words.specs.GateCalls.{SeatState}
use Rattle.evl_machine.specs.callers.Handles.{CallerState}

-- of the caller only its seats at the staxes change, and by this
abbrev pub StaxCall : {C : Type 0} → CallerState C → (List SeatState → List SeatState → Type 0) → CallerState C → Type 0
StaxCall old does new = (new ≡ record old { staxes = new.staxes }) × does old.staxes new.staxes
