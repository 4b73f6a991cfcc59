-- The bytes that a sink was given, and those that wait for it.
use Rattle.std.specs.Prelude.{◌≡◌, ℕ, List, [], ◌++◌, length, nat_eq, nat_lt, ◌&&◌, ◌||◌, Bool, true, false, if◌then◌else◌, Option}
use Rattle.std.specs.Io.KnownBytes.{Appends}
use Rattle.evl_scenario.specs.Lines.{AreLines}

-- rule: A sink has failed from the first put on that took 0 of some bytes.
--   clauses: Sink::{put, failed}
-- whether a sink has failed once it took so many of some bytes: it took none of them, or had failed before
abbrev pub failed_after : Bool → List ℕ → ℕ → Bool
failed_after failed bytes taken = (nat_eq taken 0 && nat_lt 0 (length bytes)) || failed

-- the sink took a front part of the bytes
pub record TakesPrefix (old new : Option (List ℕ)) (bytes : List ℕ) : Type 0 where
  pub front : List ℕ
  pub back : List ℕ
  pub whole : front ++ back ≡ bytes
  pub tells : Appends old new front

-- the sink took all of the bytes, or a front part where it has failed
abbrev pub Takes : Option (List ℕ) → Option (List ℕ) → List ℕ → Bool → Type 0
Takes old new bytes false = Appends old new bytes
Takes old new bytes true = TakesPrefix old new bytes

-- what waits of these bytes: a chunk of 4096 bytes or more is handed on
abbrev pub kept_bytes : List ℕ → List ℕ
kept_bytes bytes = if nat_lt (length bytes) 4096 then bytes else []

-- what waited and then the bytes: a front part was written, and the rest waits
pub record Passes (old : Option (List ℕ)) (waited : List ℕ) (new : Option (List ℕ)) (waiting bytes : List ℕ) : Type 0 where
  pub front : List ℕ
  pub whole : front ++ waiting ≡ waited ++ bytes
  pub tells : Appends old new front

-- all that waited was written, and then whole lines at the front of the bytes
pub record HandsOn (old : Option (List ℕ)) (waited : List ℕ) (new : Option (List ℕ)) (bytes : List ℕ) : Type 0 where
  pub lines : List ℕ
  pub back : List ℕ
  pub whole : lines ++ back ≡ bytes
  pub ends : AreLines lines
  pub tells : Appends old new (waited ++ lines)
