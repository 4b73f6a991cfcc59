-- How the program ends.
use Rattle.std.proofs.Common.{◌≡◌, ◌⊎◌, inl, inr, ℕ, List, [], take, Bool, false, Option, Some, None, Ok, Err, refl, sym, subst}
use Rattle.evl_kernel.specs.state.States.{Handler}
use Rattle.evl_scenario.specs.declared.faults.Fault.{Fault}
use Rattle.evl_scenario.specs.declared.faults.Fault.TheVariants.{Text, Board, Step, Memory, Write}
use Rattle.evl_shell.specs.declared.plays.Stop.{Stop}
use Rattle.evl_shell.specs.declared.plays.Stop.TheVariants.{NoFile, Broken}
use Rattle.evl_scenario.specs.Faults.{IsRefusal}
use Rattle.evl_shell.specs.Faults.{Writes, WritesPart, WritesLines, is_write_fault}
use Rattle.evl_shell.specs.Plays.{IsInput, Ended}
use Rattle.evl_shell.specs.Runs.{trace_of}
use Rattle.evl_shell.proofs.SinkLemmas.{WritesLines-nothing}

-- what is known of the input, as far as it is read
abbrev whole_input : Option (List ℕ) → List ℕ
whole_input None = []
whole_input (Some bytes) = take 1048577 bytes

reads_whole : (known : Option (List ℕ)) → IsInput known (whole_input known)
reads_whole None = tt
reads_whole (Some bytes) = refl

-- an input that wasn't read to its end
pub ended-unread : (bank : List Handler) (given : Option ℕ) (known told : Option (List ℕ)) (failed : Bool) (stop : Stop) → failed ≡ false → (stop ≡ NoFile) ⊎ (stop ≡ Broken Memory) → Ended bank given known told told failed (Err stop)
ended-unread bank given known told failed stop working why =
    let P : Stop → Type 0 = λ s. Ended bank given known told told failed (Err s) in
    elim why [
      | inl unread ↦ subst P (sym unread) (record { text = whole_input known; read = reads_whole known; tells = refl; fails = working })
      | inr memory ↦ subst P (sym memory) (record { text = whole_input known; read = reads_whole known; tells = WritesLines-nothing told (trace_of bank given (whole_input known)); fails = working })
    ]

-- a run to its end
pub ended-done : (bank : List Handler) (given : Option ℕ) (known old new : Option (List ℕ)) (failed : Bool) (text slice : List ℕ) → slice ≡ text → IsInput known text
    → Writes old new (trace_of bank given slice) → failed ≡ false → Ended bank given known old new failed (Ok tt)
ended-done bank given known old new failed text slice is read wrote working =
    let P : List ℕ → Type 0 = λ t. Writes old new (trace_of bank given t) in
    record { text = text; read = read; tells = subst P is wrote; fails = working }

broken : (bank : List Handler) (given : Option ℕ) (known old new : Option (List ℕ)) (failed : Bool) (text : List ℕ) (fault : Fault) → IsInput known text
    → (IsRefusal fault → (trace_of bank given text ≡ Err fault) × (new ≡ old)) → (fault ≡ Memory → WritesLines old new (trace_of bank given text))
    → (fault ≡ Write → WritesPart old new (trace_of bank given text)) → failed ≡ is_write_fault (Err fault) → Ended bank given known old new failed (Err (Broken fault))
broken bank given known old new failed text Text read refused lines part fails = record { text = text; read = read; tells = refused tt; fails = fails }
broken bank given known old new failed text Board read refused lines part fails = record { text = text; read = read; tells = refused tt; fails = fails }
broken bank given known old new failed text (Step n) read refused lines part fails = record { text = text; read = read; tells = refused tt; fails = fails }
broken bank given known old new failed text Memory read refused lines part fails = record { text = text; read = read; tells = lines refl; fails = fails }
broken bank given known old new failed text Write read refused lines part fails = record { text = text; read = read; tells = part refl; fails = fails }

-- a run that stopped
pub ended-broken : (bank : List Handler) (given : Option ℕ) (known old new : Option (List ℕ)) (failed : Bool) (text slice : List ℕ) (fault : Fault) → slice ≡ text → IsInput known text
    → (IsRefusal fault → (trace_of bank given slice ≡ Err fault) × (new ≡ old)) → (fault ≡ Memory → WritesLines old new (trace_of bank given slice))
    → (fault ≡ Write → WritesPart old new (trace_of bank given slice)) → failed ≡ is_write_fault (Err fault) → Ended bank given known old new failed (Err (Broken fault))
ended-broken bank given known old new failed text slice fault is read refused lines part fails =
    let P : List ℕ → Type 0 = λ t. IsInput known t in
    broken bank given known old new failed slice fault (subst P (sym is) read) refused lines part fails
