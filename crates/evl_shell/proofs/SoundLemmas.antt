-- The callbacks of a bank are sound, each by its type.
use Rattle.std.proofs.Common.{List, [], ◌∷◌}
use Rattle.std.proofs.lemmas.List.Elements.{All-nil, All-cons}
use Rattle.evl_pipeline.specs.Plans.{IsSound}
use Rattle.evl_pipeline.specs.declared.callback.Callback.{Callback}
use Rattle.evl_kernel.specs.state.States.{Handler}
use Rattle.evl_shell.specs.Histories.{AreSound}
use Rattle.evl_shell.specs.Runs.{handlers_of}

pub sound_bank : {g : Type 0} {f : g → Type 0} {m : _} (bank : List (Callback g f m)) → AreSound (handlers_of (λ c. c.kinds.0) (λ c. c.plan.value) bank)
sound_bank [] = All-nil _
sound_bank (c ∷ cs) = All-cons (λ (handler : Handler). IsSound handler.kinds handler.plan) _ _ c.sound (sound_bank cs)
