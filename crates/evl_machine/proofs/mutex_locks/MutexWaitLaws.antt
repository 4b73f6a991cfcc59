-- A call that is made until its answer doesn't pass.
use Rattle.std.proofs.Common.{◌≡◌, List, ◌∷◌, true, true≢false, Result, Ok, Err, sym}
use Rattle.evl_base.specs.declared.refusal.Refusal.{Refusal}
use Rattle.evl_machine.specs.callers.Handles.{CallerState}
use Rattle.evl_machine.specs.mutex_locks.MutexWaits.{Repeats, passes}

module _ {C T : Type 0} (call : CallerState C → Result T Refusal → CallerState C → Type 0) (old now new : CallerState C) (earlier : List (Refusal × CallerState C)) where
  -- one more answer that passes
  pub repeats_more : (r : Result T Refusal) → Repeats call old earlier now → call now r new → passes r ≡ true → (refused : List (Refusal × CallerState C)) × Repeats call old refused new
  repeats_more (Ok answer) repeats did may = absurd (true≢false (sym may))
  repeats_more (Err refusal) repeats did may = ((refusal, now) ∷ earlier, (repeats, may, did))
