-- Lines one after the other.
use Rattle.std.proofs.Common.{◌≡◌, ℕ, ◌+◌, List, ◌++◌, sym, ◌∙◌, ap, add-one, append-nil, append_assoc}
use Rattle.lab_step_orders.specs.Told.{lines_below}

pub lines_none : (line : ℕ → List ℕ) (text : List ℕ) → text ≡ text ++ lines_below line 0
unfolding lines_below
lines_none line text = sym (append-nil text)

lines_next : (line : ℕ → List ℕ) (n : ℕ) → lines_below line (n + 1) ≡ lines_below line n ++ line n
unfolding lines_below
lines_next line n = ap (λ (k : ℕ). lines_below line k) (add-one n)

-- one line more
pub lines_more : (line : ℕ → List ℕ) (n : ℕ) (first now next : List ℕ) → now ≡ first ++ lines_below line n → next ≡ now ++ line n → next ≡ first ++ lines_below line (n + 1)
lines_more line n first now next so more =
    more ∙ (ap (λ (text : List ℕ). text ++ line n) so ∙ (append_assoc first (lines_below line n) (line n) ∙ ap (λ (text : List ℕ). first ++ text) (sym (lines_next line n))))
