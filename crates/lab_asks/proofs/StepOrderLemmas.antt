-- One of two things that a truth value chooses; what is said of a step, and of the number of outcomes.
use Rattle.std.proofs.Common.{◌≡◌, ℕ, ◌++◌, Bool, true, false, List, Option, Some, codes, decimal, length, refl, sym, ap, ◌∙◌, append_assoc}
use Rattle.std.specs.Prelude.{MatchBool}
use Rattle.lab_scenario_orders.specs.Verdicts.{is_count_against}
use Rattle.lab_scenario_orders.specs.declared.asks.Ask.{Ask}
use Rattle.lab_orders.specs.Machines.{orders}
use Rattle.lab_orders.specs.Tallies.{told_weight}
use Rattle.lab_orders.proofs.Totals.{total_of_ones}
use Rattle.lab_step_orders.specs.Outcomes.{AreOutcomes}
use Rattle.lab_step_orders.specs.Seen.{first_seen, machine}
use Rattle.lab_step_orders.specs.declared.crews.Crew.{Crew}
use Rattle.lab_step_orders.specs.declared.outcomes.StepOutcomes.{StepOutcomes}
use Rattle.lab_streams.specs.Endings.{line_about}
use Rattle.lab_asks.specs.StepOrders.{line_words, wanted_text}

pub is_first : (b : Bool) (A B : Type 0) → b ≡ true → A → MatchBool b A B
is_first true A B e a = a
is_first false A B e a = cc

pub is_second : (b : Bool) (A B : Type 0) → b ≡ false → B → MatchBool b A B
is_second true A B e b = cc
is_second false A B e b = b

-- the outcomes have as many orders together as were counted
pub all_are_counted : (c : Crew) (most : ℕ) (found : StepOutcomes) → AreOutcomes c most found → told_weight (λ told. 1) found.all.items ≡ found.count
all_are_counted c most found are = are.counted (λ told. 1) ∙ (total_of_ones (orders (machine c) (first_seen c) found.steps) ∙ sym are.count)

-- a number and words after it, in a line
pub step_line : (name words said : List ℕ) (number : ℕ) → said ≡ words
    → name ++ (codes ": bad step " ++ (decimal number ++ (codes ": " ++ (said ++ codes "\n")))) ≡ line_about name (codes "bad step " ++ (decimal number ++ (codes ": " ++ words)))
step_line name words said number same =
    ap (λ (w : List ℕ). name ++ (codes ": bad step " ++ (decimal number ++ (codes ": " ++ (w ++ codes "\n"))))) same
    ∙ ap (λ (rest : List ℕ). name ++ (codes ": bad step " ++ rest)) (sym (append_assoc (decimal number) (codes ": " ++ words) (codes "\n")))

pub about_line : (name words : List ℕ) (number : ℕ) → name ++ (codes ": line " ++ (decimal number ++ (codes ": " ++ (words ++ codes "\n")))) ≡ line_about name (line_words number words)
about_line name words number = ap (λ (rest : List ℕ). name ++ (codes ": line " ++ rest)) (sym (append_assoc (decimal number) (codes ": " ++ words) (codes "\n")))

-- other outcomes than as many as are asked for
pub counted_text : (name : List ℕ) (asks : Ask) (found : StepOutcomes) (o : Option ℕ) (wanted : ℕ) → o ≡ Some wanted → is_count_against wanted found.whole (length found.all.items) ≡ true
    → wanted_text name asks found o
    ≡ codes "lab: " ++ (name ++ (codes ": outcomes: " ++ (decimal (length found.all.items) ++ (codes ", and not " ++ (decimal wanted ++ codes "\n")))))
counted_text name asks found o wanted is against = rw (is, against) refl
