-- Some number below another passes.
use Rattle.std.proofs.Common.{◌≡◌, ℕ, ◌+◌, Bool, false, ap, add-one, refl, ◌∙◌, sym}
use Rattle.std.specs.Prelude.{◌||◌}
use Rattle.lab_step_orders.specs.Facts.{any_below}

pub any_none : (test : ℕ → Bool) → false ≡ any_below test 0
unfolding any_below
any_none test = refl

pub any_more : (test : ℕ → Bool) (n : ℕ) (was now : Bool) → was ≡ any_below test n → now ≡ (was || test n) → now ≡ any_below test (n + 1)
unfolding any_below
any_more test n was now before is = is ∙ (ap (λ (b : Bool). b || test n) before ∙ sym (ap (λ (k : ℕ). any_below test k) (add-one n)))
