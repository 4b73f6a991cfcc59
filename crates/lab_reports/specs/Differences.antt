-- The place where two traces differ.
use Rattle.std.specs.Prelude.{◌≡◌, ℕ, ◌+◌, ◌-◌, ◌==◌, Bool, true, false, ◌&&◌, ◌||◌, List, [], ◌∷◌, ◌++◌, if◌then◌else◌, Option, Some, None, length, option_map, take}
use Rattle.std.specs.Str.{bytes_eq}
use Rattle.lab_traces.specs.Lines.{Said, entry, line_read}
use Rattle.lab_reports.specs.declared.differences.Difference.{Difference}

-- both are entries that say the same, whatever their numbers
abbrev pub are_one_entry : Option Said → Option Said → Bool
are_one_entry (Some (entry one)) (Some (entry other)) =
    one.thread == other.thread && bytes_eq one.call other.call && bytes_eq one.answer other.answer
are_one_entry _ _ = false

-- two lines, or two ends, that are the same, but for the number of an entry
abbrev pub are_alike : Option (List ℕ) → Option (List ℕ) → Bool
are_alike (Some one) (Some other) = bytes_eq one other || are_one_entry (line_read one) (line_read other)
are_alike None None = true
are_alike _ _ = false

-- the number of a line, and what is there in each of two lists, none after their ends
abbrev pub Apart : Type 0
Apart = ℕ × Option (List ℕ) × Option (List ℕ)

-- what is there, if it isn't alike
abbrev pub apart_at : ℕ → Option (List ℕ) → Option (List ℕ) → List Apart
apart_at line stored made = if are_alike stored made then [] else (line, stored, made) ∷ []

-- rule: The lines at which two traces differ in more than entries' numbers are given, as many of the first as are asked
--   for, with what each trace has there. Carriage returns before line feeds and a missing last line feed do not count.
--   clauses: find_differences
--   rows: numbers_alone_are_no_difference; apart_1
-- each line at which two lists differ, where their first lines have this number
abbrev pub differing : ℕ → List (List ℕ) → List (List ℕ) → List Apart
differing line [] [] = []
differing line (one ∷ stored) [] = apart_at line (Some one) None ++ differing (line + 1) stored []
differing line [] (other ∷ made) = apart_at line None (Some other) ++ differing (line + 1) [] made
differing line (one ∷ stored) (other ∷ made) = apart_at line (Some one) (Some other) ++ differing (line + 1) stored made

-- what is reported of a difference
abbrev pub told_apart : Difference → Apart
told_apart d = (d.line, option_map (λ line. line.now) d.stored, option_map (λ line. line.now) d.made)

-- ---- for private clauses

-- what is noted of the differences that come first, at most so many: of one place more, if it isn't alike and there is room
abbrev pub Notes : ℕ → List Apart → List Apart → Apart → List Apart → Type 0
Notes most noted noted_now here rest =
    noted_now ++ take (most - length noted_now) rest ≡ noted ++ take (most - length noted) (apart_at here.0 here.1 here.2 ++ rest)
