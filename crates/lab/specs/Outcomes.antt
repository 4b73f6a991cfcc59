-- The picture of an outcome: what `orders` prints of it, drawn.
use Rattle.std.specs.Prelude.{◌≡◌, ◌==◌, ℕ, MatchBool, List, [], Option, Some, None, option_map}
use Rattle.lab.specs.Explains.{Behind, named}
use Rattle.lab.specs.declared.explains.Takes.TheVariants as takes
use Rattle.lab_asks.specs.Orders.{TellsOrders}
use Rattle.lab_draws.specs.Draws.{Draws}
use Rattle.lab_streams.specs.declared.words.Asked.{Asked}
use Rattle.lab_streams.specs.declared.words.Drawing.{Drawing}

-- what `orders` printed where it answered this status, drawn as an input over the same bank; of a text that was refused, nothing
abbrev pub DrawsFound : Drawing → Option (List ℕ) → ℕ → List ℕ → Option (List ℕ) → Option (List ℕ) → Option (List ℕ) → Option (List ℕ) → ℕ → Type 0
DrawsFound drawing bank found printed old new quiet spoken status =
    MatchBool (found == 2) ((status ≡ 2) × (new ≡ old) × (spoken ≡ quiet)) (Draws drawing bank None (Some printed) old new quiet spoken status)

-- rule: If an outcome is asked for, it says what `lab orders` says of that outcome and draws the scenario or the lines
--   that `lab orders` prints of it, as an input, over the same bank; the status is that of the picture, or 2 if `lab
--   orders` answers 2, and then nothing is printed.
--   also: Outcomes.DrawsFound
--   clauses: draw_outcome
-- `orders` prints the outcome's scenario, and says what it says; then that is drawn
abbrev pub DrawsOutcome : Asked → Drawing → Option (List ℕ) → Option (List ℕ) → Option (List ℕ) → Option (List ℕ) → Option (List ℕ) → ℕ → Type 0
DrawsOutcome asked drawing known old new quiet spoken status =
    (printed : List ℕ) × (between : Option (List ℕ)) × (found : ℕ)
    × Behind (TellsOrders asked known) takes.Orders (named (option_map (λ file. file.now) asked.file)) (Some []) (Some printed) quiet between found
    × DrawsFound drawing (option_map (λ name. name.now) asked.bank) found printed old new between spoken status
