-- All that is known of a moment, of what is at hand there.
use Rattle.std.proofs.Common.{◌≡◌, ap, subst, sym}
use Rattle.std.specs.Prelude.{IfSome, Option, Some, None, option_map}

pub seen_there : {A R B : Type 0} (f : A → B) (at : R → A) (held : Option R) (next : Option A) → option_map at held ≡ next → option_map (λ r. f (at r)) held ≡ option_map f next
seen_there f at None next is = ap (option_map f) is
seen_there f at (Some r) next is = ap (option_map f) is

pub fits_there : {A R : Type 0} (P : A → Type 0) (at : R → A) (held : Option R) (next : Option A) → option_map at held ≡ next → IfSome next P → IfSome held (λ r. P (at r))
fits_there P at None next is fits = tt
fits_there P at (Some r) next is fits = subst (λ o. IfSome o P) (sym is) fits

pub hand_there : {A R K : Type 0} (Q : K → A → Type 0) (hand : R → K) (at : R → A) (k : K) (held : Option R) (next : Option A)
    → option_map at held ≡ next → IfSome held (λ r. hand r ≡ k) → IfSome next (Q k) → IfSome held (λ r. Q (hand r) (at r))
hand_there Q hand at k None next is by stands = tt
hand_there Q hand at k (Some r) next is by stands = subst (λ x. Q x (at r)) (sym by) (subst (λ o. IfSome o (Q k)) (sym is) stands)
