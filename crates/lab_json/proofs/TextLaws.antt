-- A text and what follows it.
use Rattle.std.proofs.Common.{◌≡◌, ◌∙◌, ◌++◌, ℕ, List, append_assoc, Result, Ok, Err, OnOk, ap}

pub then_ok : {T E : Type 0} (r : Result T E) (old mid new a b : List ℕ) → mid ≡ old ++ a → OnOk r (new ≡ mid ++ b) → OnOk r (new ≡ old ++ (a ++ b))
then_ok (Ok x) old mid new a b first more = more ∙ ap (λ (m : List ℕ). m ++ b) first ∙ append_assoc old a b
then_ok (Err e) old mid new a b first more = tt
