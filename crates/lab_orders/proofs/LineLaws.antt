-- Lines of steps, one after the other.
use Rattle.std.proofs.Common.{◌≡◌, ℕ, ◌+◌, List, ◌++◌, Result, Ok, Err, OnOk, length, sym, ◌∙◌, ap, add-one, append-nil, append_assoc}
use Rattle.lab_orders.specs.Answers.{Row, answers_from, orders_without, step_line, step_lines, told_text, unmade_text}

pub steps_none : (who : List ℕ) (rows : List Row) (text : List ℕ) → text ≡ text ++ step_lines who rows 0
steps_none who rows text = sym (append-nil text)

-- the line of one step more
pub steps_more : (who : List ℕ) (rows : List Row) (step : ℕ) (first now next : List ℕ) → now ≡ first ++ step_lines who rows step → next ≡ now ++ step_line who rows step
    → next ≡ first ++ step_lines who rows (step + 1)
steps_more who rows step first now next so more =
    more ∙ (ap (λ (text : List ℕ). text ++ step_line who rows step) so
    ∙ (append_assoc first (step_lines who rows step) (step_line who rows step) ∙ ap (λ (n : ℕ). first ++ step_lines who rows n) (sym (add-one step))))

-- the answers, and after them in how many orders the step isn't made
pub told_written : {X E : Type 0} (r : Result X E) (step : ℕ) (rows : List Row) (all : List (List ℕ)) (first now next : List ℕ) (place count : ℕ) → now ≡ first ++ answers_from step rows 0 all
    → place ≡ length all → count ≡ orders_without step rows → OnOk r (next ≡ now ++ unmade_text place count) → OnOk r (next ≡ first ++ told_text step rows all)
told_written (Ok x) step rows all first now next place count so is counted more =
    more ∙ (ap (λ (text : List ℕ). text ++ unmade_text place count) so
    ∙ (append_assoc first (answers_from step rows 0 all) (unmade_text place count) ∙ (λ i. first ++ (answers_from step rows 0 all ++ unmade_text (is i) (counted i)))))
told_written (Err e) step rows all first now next place count so is counted more = tt
