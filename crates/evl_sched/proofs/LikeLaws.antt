-- All that `==` says of what may be missing.
use Rattle.std.proofs.Common.{◌≡◌, Bool, Option, Some, None, refl, ap}
use Rattle.std.specs.Prelude.{Decides}
use Rattle.std.specs.Option.{option_eq}
use Rattle.std.proofs.lemmas.Bool.{false≢true}

module _ {X : Type 0} (F : X → X → Bool) (decides : (v w : X) → Decides (F v w) (v ≡ w)) where
  pub option_decides : (a b : Option X) → Decides (option_eq F a b) (a ≡ b)
  option_decides None None = (λ e. refl, λ e. refl)
  option_decides None (Some w) = (λ e. absurd (false≢true e), λ e. cc)
  option_decides (Some v) None = (λ e. absurd (false≢true e), λ e. cc)
  option_decides (Some v) (Some w) = (λ e. ap Some ((decides v w).0 e), λ e. (decides v w).1 cc)
