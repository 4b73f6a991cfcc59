-- The faults that are found in a text, and the lines that report them.
use Rattle.std.specs.Prelude.{◌≡◌, ℕ, Bool, true, false, ◌||◌, List, [], ◌∷◌, ◌++◌, codes, decimal, string_bytes, Option, None, Some, Result, Ok, Err}
use Rattle.std.specs.List.{list_all}
use Rattle.std.specs.Str.{bytes_eq}
use Rattle.lab_faults.specs.declared.found.Found.{Found}
use Rattle.lab_faults.specs.declared.found.Place.{Place}
use Rattle.evl_scenario.specs.Lines.{line_feed}
use Rattle.evl_scenario.specs.Scenarios.{Script}
use Rattle.evl_scenario.specs.declared.faults.Fault.{Fault}
use Rattle.evl_scenario.specs.declared.faults.Fault.TheVariants.{Step}

-- the first of the faults that were found
abbrev pub first_fault : List Found → Option Fault
first_fault [] = None
first_fault (found ∷ rest) = Some found.fault

-- the one that a scenario is refused for
abbrev pub refusal_in : Result Script Fault → Option Fault
refusal_in (Ok script) = None
refusal_in (Err fault) = Some fault

abbrev pub is_of_step : Fault → Bool
is_of_step (Step n) = true
is_of_step _ = false

-- none is of the text or of the board
abbrev pub are_of_steps : List Found → Bool
are_of_steps found = list_all (λ one. is_of_step one.fault) found

-- a place as a line gives it
abbrev pub place_text : Place → List ℕ
place_text place = decimal place.line ++ (codes ":" ++ decimal place.column)

-- the line of a fault in a file of this name
abbrev pub found_line : List ℕ → Found → List ℕ
found_line name found = name ++ (codes ":" ++ (place_text found.place ++ (codes ": " ++ (string_bytes found.words ++ line_feed))))

-- the lines of some faults, in order
abbrev pub found_lines : List ℕ → List Found → List ℕ
found_lines name [] = []
found_lines name (found ∷ rest) = found_line name found ++ found_lines name rest

-- the lines of some faults were added, of which the first is this one: none, where there is no refusal
pub record TellsFaults (name : List ℕ) (refusal : Option Fault) (old new : List ℕ) : Type 0 where
  pub found : List Found
  -- rule: A fault is reported exactly if the text cannot be played; the first is the one for which it is refused. If
  --   that is a step's, none of the text or the board is reported.
  --   clauses: check: steps
  --   rows: nothing_is_told_of_a_scenario
  pub first : first_fault found ≡ refusal
  pub told : new ≡ old ++ found_lines name found

-- the keys of a step that may be left out
abbrev pub may_lack : List ℕ → Bool
may_lack key = bytes_eq key (codes "tag") || (bytes_eq key (codes "until") || bytes_eq key (codes "keep"))
