-- The list that a run leaves where it was empty.
use Rattle.std.specs.Prelude.{◌≡◌, ℕ, List, Result, Ok, Err}
use Rattle.evl_scenario.specs.declared.faults.Fault.{Fault}
use Rattle.evl_scenario.specs.declared.faults.Fault.TheVariants.{Text, Board, Step, Memory, Write}

-- what a run into an empty list left there, by its end
abbrev pub Runs : Result (List ℕ) Fault → List ℕ → Result (Unit {0}) Fault → Type 0
Runs trace told (Ok done) = trace ≡ Ok told
Runs trace told (Err Text) = trace ≡ Err Text
Runs trace told (Err Board) = trace ≡ Err Board
Runs trace told (Err (Step n)) = trace ≡ Err (Step n)
Runs trace told (Err Memory) = Unit {0}
Runs trace told (Err Write) = Unit {0}

-- a fault for which a text is refused; for want of memory any text may be, and no sink is there that fails
abbrev pub Refuses : Result (List ℕ) Fault → Fault → Type 0
Refuses trace Text = trace ≡ Err Text
Refuses trace Board = trace ≡ Err Board
Refuses trace (Step n) = trace ≡ Err (Step n)
Refuses trace Memory = Unit {0}
Refuses trace Write = ⊥
