-- The report of `lab callers` on a text of callers.
use Rattle.std.specs.Prelude.{◌≡◌, ◌⊎◌, ℕ, List, ◌++◌, codes, decimal, false, length, map, string_bytes, Option, IsSomeAnd, unwrap_or}
use Rattle.evl_kernel.specs.state.Openings.{can_open}
use Rattle.evl_kernel.specs.state.States.{Handler}
use Rattle.evl_scenario.specs.Lines.{line_feed}
use Rattle.evl_scenario.specs.declared.faults.Fault.{Fault}
use Rattle.evl_plans.specs.Told.{handler_of}
use Rattle.evl_plans.specs.declared.planned.Planned.{Planned}
use Rattle.lab_callers_text.specs.Readings.{IsRead, IsRefused}
use Rattle.lab_callers_text.specs.declared.reading.CallersText.{CallersText}
use Rattle.lab_callers.specs.Faults as callers
use Rattle.lab_callers.specs.Plays.{IsTold}
use Rattle.lab_callers.specs.declared.playing.Ending.{Ending}
use Rattle.lab_callers.specs.declared.playing.Ending.TheVariants as ending
use Rattle.lab_callers.specs.declared.playing.Played.{Played}
use Rattle.lab_streams.specs.Banks.{Refuses}
use Rattle.lab_kinds.specs.Kinds.{kind_of}
use Rattle.lab_streams.specs.Endings.{as_callers, kinded_words, line_about}
use Rattle.lab_streams.specs.Outputs.{OfRead, Output, WritesOverBank, refuses}
use Rattle.lab_streams.specs.Readings.{Reading}

-- a step that can't be made is said
abbrev pub ending_text : List ℕ → Ending → List ℕ
ending_text name (ending.Fault number fault) = name ++ (codes ": bad step " ++ (decimal number ++ (codes ": " ++ (callers.fault_words fault ++ line_feed))))
ending_text name _ = codes ""

abbrev pub ending_status : Ending → ℕ
ending_status (ending.Fault number fault) = 2
ending_status _ = 0

abbrev pub played_told : List ℕ → Played → Output
played_told name played = record {
  printed = string_bytes played.lines ++ string_bytes played.closing;
  said = ending_text name played.ending;
  status = ending_status played.ending;
}

-- a text is played over these callbacks
pub record PlaysOver (bank : List Handler) (asked : CallersText) (played : Played) : Type 0 where
  pub plans : List Planned
  pub bank_is : map handler_of plans ≡ bank
  pub is_told : IsTold (λ p. p.kinds.0) (λ p. p.plan) asked plans played

-- or no machine can have its board, these callbacks and its limit
abbrev pub TellsPlayed : List Handler → List ℕ → CallersText → Output → Type 0
TellsPlayed bank name asked output =
    ((played : Played) × PlaysOver bank asked played × (output ≡ played_told name played)) ⊎ ((can_open asked.board (length bank) asked.limit ≡ false) × (output ≡ refuses 2 (line_about name (codes "bad board"))))

-- what a text asks for, under a limit that may be handed in; or it is refused, for that fault
abbrev pub TellsText : List Handler → Option ℕ → List ℕ → List ℕ → Output → Type 0
TellsText bank limit name text output =
    ((asked : CallersText) × IsRead limit text asked × TellsPlayed bank name asked output)
    ⊎ ((fault : Fault) × IsRefused limit text fault × IsSomeAnd (kinded_words (as_callers (kind_of text)) fault) (λ words. output ≡ refuses 2 (line_about name words)))

-- of a file, by what was read of it
abbrev pub TellsRead : List Handler → Option ℕ → List ℕ → Reading → Output → Type 0
TellsRead bank limit name = OfRead (TellsText bank limit name) name

-- the bank's file is refused, or what the callers of a file or of the input do is reported over its callbacks
abbrev pub TellsCallers : Option (List ℕ) → Option ℕ → Option (List ℕ) → Option (List ℕ) → Option (List ℕ) → Option (List ℕ) → Option (List ℕ) → Option (List ℕ) → ℕ → Type 0
TellsCallers plans limit file known old new quiet spoken status =
    Refuses plans old new quiet spoken status
    ⊎ WritesOverBank (λ bank. TellsRead bank limit (unwrap_or file (codes "-"))) plans file known old new quiet spoken status
