-- Facts about the lines that were read.
use Rattle.std.specs.Prelude.{◌≡◌, ◌≢◌, ◌⊎◌, ℕ, ◌+◌, true, List, [], ◌∷◌, ◌++◌, length, Option, Some, None, is_some}
use Rattle.std.specs.List.{All}
use Rattle.evl_scenario.specs.Lines.{line_feed}
use Rattle.lab_traces.specs.Entries.{EntryParts}
use Rattle.lab_traces.specs.Lines.{Said, board, entry, play, line_read}
use Rattle.lab_traces.specs.Parts.{around, Lacks}
use Rattle.lab_traces.specs.declared.entries.EntryLine.{EntryLine}
use Rattle.lab_traces.specs.declared.traces.Says.{Says}
use Rattle.lab_traces.specs.declared.traces.Says.TheVariants.{Board, Entry, Play}
use Rattle.lab_traces.specs.declared.traces.TraceLine.{TraceLine}

abbrev pub parts_of : EntryLine → EntryParts
parts_of line = record { number = line.number; thread = line.thread; call = line.call.now; answer = line.answer.now }

abbrev pub says_of : Says → Said
says_of (Board line) = board line
says_of (Entry line) = entry (parts_of line)
says_of (Play p) = play p

abbrev pub text_of : TraceLine → List ℕ
text_of line = line.text.now

-- lines, each with its line feed
abbrev pub whole_lines : List (List ℕ) → List ℕ
whole_lines [] = []
whole_lines (line ∷ rest) = line ++ (line_feed ++ whole_lines rest)

-- what a line says, and what its text is read as
abbrev pub says_some : TraceLine → Option Said
says_some line = Some (says_of line.says)

abbrev pub read_of : TraceLine → Option Said
read_of line = line_read line.text.now

-- a line of a trace, without the line feed at its end
pub record IsLine (line : List ℕ) : Type 0 where
  pub alone : Lacks 10 line
  -- rule: The lines of a text are read in order, each by itself. The number of the first that is no line of a trace, or
  --   ends without a line feed, is given.
  --   clauses: read_lines: apart, refused, whole
  --   rows: another_line_is_refused
  pub says : is_some (line_read line) ≡ true

-- a text begins with no line of a trace: it has no line feed, or its first line is none
abbrev pub BeginsOtherwise : List ℕ → Type 0
BeginsOtherwise text = (around 10 text ≡ None) ⊎ ((line : List ℕ) × (rest : List ℕ) × (around 10 text ≡ Some (line, rest)) × (line_read line ≡ None))

-- before the line of this number a text has lines of a trace alone; from there on it has something, which begins with none
pub record IsMisread (text : List ℕ) (n : ℕ) : Type 0 where
  pub front : List (List ℕ)
  pub rest : List ℕ
  pub whole : text ≡ whole_lines front ++ rest
  pub lines : All IsLine front
  pub number : n ≡ length front + 1
  pub more : rest ≢ []
  pub otherwise : BeginsOtherwise rest
