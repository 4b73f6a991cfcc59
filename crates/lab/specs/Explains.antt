-- The words for files that a part has refused, after what the part says: the first fault of each, and the way to `lab check`.
use Rattle.std.specs.Prelude.{◌≡◌, ◌⊎◌, ◌==◌, ℕ, Bool, true, false, MatchBool, List, [], ◌∷◌, ◌++◌, codes, Option, Some, None, Ok, Err}
use Rattle.std.specs.Io.KnownBytes.{Appends}
use Rattle.std.specs.Option.{option_map_or}
use Rattle.lab_kinds.specs.Kinds.{checked_kind, kind_of}
use Rattle.lab_kinds.specs.Reports.{Reports}
use Rattle.lab_kinds.specs.declared.kinds.TextKind.{TextKind}
use Rattle.lab_kinds.specs.declared.kinds.TextKind.TheVariants as kind
use Rattle.lab_lines.specs.Kinds.{IsPlain, IsUnread}
use Rattle.lab_traces.specs.Parts.{around}
use Rattle.lab_lines.specs.declared.texts.LinesFault.{LinesFault}
use Rattle.lab_streams.specs.Readings.{Reading}
use Rattle.lab_streams.specs.Texts.{is_input}
use Rattle.lab.specs.declared.explains.Takes.{Takes}
use Rattle.lab.specs.declared.explains.Takes.TheVariants as takes

-- ---- a file

-- the kinds of texts that a part takes
abbrev pub is_taken : Takes → TextKind → Bool
is_taken own kind.Scenario = true
is_taken takes.Orders kind.Orders = true
is_taken takes.Orders kind.Callers = true
is_taken takes.Callers kind.Callers = true
is_taken _ _ = false

-- where a text is checked as one that the part doesn't take: one of callers is for all their orders then
abbrev pub misplaced_text : Takes → TextKind → List ℕ → List ℕ
misplaced_text takes.Callers kind.Callers name = name ++ codes ": has lasts or [what_if]: a text for lab orders\n"
misplaced_text _ _ name = []

-- the first line of a report
abbrev pub first_line : List ℕ → List ℕ
first_line report = option_map_or (λ parts. parts.0) (around 10 report) report

abbrev pub IsFirstLine : List ℕ → List ℕ → Type 0
IsFirstLine report line = line ≡ first_line report

abbrev pub fault_text : List ℕ → List ℕ → List ℕ
fault_text name line = line ++ (codes "\nlab check " ++ (name ++ codes " tells every fault\n"))

-- of a text of a kind: the first line of what `lab check` reports, if it has a fault
abbrev pub ExplainsKind : TextKind → List ℕ → List ℕ → List ℕ → Type 0
ExplainsKind own name text said =
    (report : List ℕ) × (at_fault : Bool) × Reports own name text [] report at_fault
    × MatchBool at_fault ((line : List ℕ) × IsFirstLine report line × (said ≡ fault_text name line)) (said ≡ [])

-- of one that the part doesn't take, by what it is checked as, at most for which part it is
abbrev pub ExplainsText : Takes → List ℕ → List ℕ → List ℕ → Type 0
ExplainsText own name text said =
    MatchBool (is_taken own (checked_kind text)) (ExplainsKind (checked_kind text) name text said) (said ≡ misplaced_text own (kind_of text) name)

-- of what is in place of a text; of lines that can't be read the part has reported the place
abbrev pub ExplainsGiven : Takes → List ℕ → List ℕ → List ℕ → Type 0
ExplainsGiven own name text said =
    ((plain : List ℕ) × IsPlain text plain × ExplainsText own name plain said) ⊎ ((e : LinesFault) × IsUnread text e × (said ≡ []))

abbrev pub ExplainsRead : Takes → List ℕ → Reading → List ℕ → Type 0
ExplainsRead own name (Ok text) said = ExplainsGiven own name text said
ExplainsRead own name (Err why) said = said ≡ []

-- of a file, by what was read of it; the input was read before
abbrev pub ExplainsFile : Takes → List ℕ → List ℕ → Type 0
ExplainsFile own name said = MatchBool (is_input name) (said ≡ []) ((read : Reading) × ExplainsRead own name read said)

-- ---- several

abbrev pub ExplainsEach : Takes → List (List ℕ) → List ℕ → Type 0
ExplainsEach own [] said = said ≡ []
ExplainsEach own (name ∷ rest) said = (first others : List ℕ) × ExplainsFile own name first × ExplainsEach own rest others × (said ≡ first ++ others)

-- where the status is that of texts at fault
abbrev pub Explains : Takes → ℕ → List (List ℕ) → List ℕ → Type 0
Explains own status names said = MatchBool (status == 2) (ExplainsEach own names said) (said ≡ [])

-- rule: If the status is 2, `play` (with `--states` too), `orders`, `callers` and `draw` end with, for each file that
--   `check` takes as a kind that this part takes, and that has a fault, the first line of `check`'s report and the way
--   to `lab check`; for callers' text for `lab orders` that it is one; and nothing else.
--   also: Explains.Explains
--   clauses: explained_plays; explained_states; explained_orders; explained_callers; explained_draws
-- a part has said what it says, and after it this is said
pub record Behind (Part : Option (List ℕ) → Option (List ℕ) → Option (List ℕ) → Option (List ℕ) → ℕ → Type 0) (own : Takes) (names : List (List ℕ))
    (old new quiet spoken : Option (List ℕ)) (status : ℕ) : Type 0 where
  pub between : Option (List ℕ)
  pub part : Part old new quiet between status
  pub said : List ℕ
  pub explains : Explains own status names said
  pub says : Appends between spoken said

-- the file that is named, if one is
abbrev pub named : Option (List ℕ) → List (List ℕ)
named (Some name) = name ∷ []
named None = []
