-- The text that was written where a run stopped.
use Rattle.std.specs.Prelude.{◌≡◌, ℕ, List, [], ◌++◌, Bool, true, false, Option, Result, Ok, Err}
use Rattle.std.specs.Io.KnownBytes.{Appends}
use Rattle.evl_scenario.specs.declared.faults.Fault.{Fault}
use Rattle.evl_scenario.specs.declared.faults.Fault.TheVariants.{Text, Board, Step, Memory, Write}
use Rattle.evl_shell.specs.Sinks.{TakesPrefix, HandsOn}

-- lines that stopped after what waited: for want of memory all that waited and then whole lines were written, and the sink
-- hasn't failed; at a write fault a front part was written, and it has
abbrev pub Stopped : Option (List ℕ) → List ℕ → Option (List ℕ) → List ℕ → Bool → Fault → Type 0
Stopped old waited new bytes failed Text = ⊥
Stopped old waited new bytes failed Board = ⊥
Stopped old waited new bytes failed (Step n) = ⊥
Stopped old waited new bytes failed Memory = HandsOn old waited new bytes × (failed ≡ false)
Stopped old waited new bytes failed Write = TakesPrefix old new (waited ++ bytes) × (failed ≡ true)

-- the one end of a run at which its sink has failed
abbrev pub is_write_fault : Result (Unit {0}) Fault → Bool
is_write_fault (Ok done) = false
is_write_fault (Err Text) = false
is_write_fault (Err Board) = false
is_write_fault (Err (Step n)) = false
is_write_fault (Err Memory) = false
is_write_fault (Err Write) = true

-- there is a trace, and all of it was written
abbrev pub Writes : Option (List ℕ) → Option (List ℕ) → Result (List ℕ) Fault → Type 0
Writes old new (Ok trace) = Appends old new trace
Writes old new (Err e) = ⊥

-- a front part of the trace was written, and nothing where there is none
abbrev pub WritesPart : Option (List ℕ) → Option (List ℕ) → Result (List ℕ) Fault → Type 0
WritesPart old new (Ok trace) = TakesPrefix old new trace
WritesPart old new (Err e) = new ≡ old

-- whole lines at the front of the trace were written, and nothing where there is none
abbrev pub WritesLines : Option (List ℕ) → Option (List ℕ) → Result (List ℕ) Fault → Type 0
WritesLines old new (Ok trace) = HandsOn old [] new trace
WritesLines old new (Err e) = new ≡ old
