-- A fault as it is reported.
use Rattle.std.specs.Prelude.{◌≡◌, ℕ, ◌+◌, ◌==◌, List, [], ◌∷◌, ◌++◌, length, map, string_bytes, take}
use Rattle.std.specs.List.{slice_split}
use Rattle.lab_faults.specs.declared.found.Finding.{Finding}
use Rattle.lab_faults.specs.declared.found.Found.{Found}
use Rattle.lab_faults.specs.declared.found.Place.{Place}
use Rattle.evl_scenario.specs.declared.faults.Fault.{Fault}

-- ---- its place

-- the place after these lines, of which the first goes on at a column
abbrev pub place_behind : ℕ → ℕ → List (List ℕ) → Place
place_behind line column [] = record { line = line; column = column }
place_behind line column (last ∷ []) = record { line = line; column = column + length last }
place_behind line column (passed ∷ next ∷ rest) = place_behind (line + 1) 1 (next ∷ rest)

-- the place of a byte of a text
unfoldable pub place_at : List ℕ → ℕ → Place
place_at text at = place_behind 1 1 (slice_split (λ c. c == 10) (take at text))

-- ---- the fault

-- of which kind it is, where it is, and what is said of it
pub record Told : Type 0 where
  pub fault : Fault
  pub place : Place
  pub words : List ℕ

abbrev pub fault_told : Found → Told
fault_told found = record { fault = found.fault; place = found.place; words = string_bytes found.words }

abbrev pub told_at : List ℕ → Fault → ℕ → List ℕ → Told
told_at text fault at words = record { fault = fault; place = place_at text at; words = words }

-- these were found after those before, in the same text
pub record Adds (old new : Finding) (faults : List Told) : Type 0 where
  pub text : new.text ≡ old.text
  -- rule: An answer's text names a refusal exactly if the answer is one; any text does exactly if it begins with a
  --   capital letter.
  --   clauses: is_refused
  -- rule: Each call of callers has a moment. Its date is the one before (at first 0), plus delta after a `tick` that is
  --   done, at most 2^64 - 1. The lane after ` | ` is as the words there say, unless it is free; all others stay. A
  --   stax, a mutex or the core, with 16-bit numbers, is read as what was shown.
  --   clauses: told_moments: count, shown, ticks
  --   rows: refused_tick; tick_moves
  pub told : map fault_told new.found.items ≡ map fault_told old.found.items ++ faults
