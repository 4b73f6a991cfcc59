-- The laws of every state that an effect leaves.
use Rattle.std.proofs.Common.{◌≡◌, Bool, true, false, [], ◌∷◌, Option, Some, None, Ok, Err, refl}
use Rattle.evl_base.specs.declared.refusal.Refusal.{Refusal}
use Rattle.evl_kernel.specs.state.States.{State}
use Rattle.evl_kernel.specs.calls.Effects.{Effect, unless, known, refused_by, if_done}

-- what an effect leaves, if it leaves anything
abbrev pub Leaves : (State → Type 0) → Effect → Type 0
Leaves P (Ok (given, s)) = P s
Leaves P (Err refusal) = Unit {0}

module _ (P : State → Type 0) where
  pub leaves-refused : (o : Option Refusal) (e : Effect) → (o ≡ None → Leaves P e) → Leaves P (refused_by o e)
  leaves-refused None e h = h refl
  leaves-refused (Some refusal) e h = tt

  pub leaves-unless : (b : Bool) (refusal : Refusal) (e : Effect) → Leaves P e → Leaves P (unless ((b, refusal) ∷ []) e)
  leaves-unless true refusal e h = tt
  leaves-unless false refusal e h = h

  pub leaves-known : {A : Type 0} (o : Option A) (e : A → Effect) → ((x : A) → o ≡ Some x → Leaves P (e x)) → Leaves P (known o e)
  leaves-known None e h = tt
  leaves-known (Some x) e h = h x refl

  pub leaves-if_done : (s : State) (e : Effect) → P s → Leaves P e → P (if_done s e)
  leaves-if_done s (Ok (given, t)) here h = h
  leaves-if_done s (Err refusal) here h = here
