-- The answer to a line of `lab live`.
use Rattle.std.specs.Prelude.{◌≡◌, ◌⊎◌, ℕ, List, [], ◌∷◌, ◌++◌, codes, decimal, nat_lt, true, false, if◌then◌else◌, Option, Some, None}
use Rattle.evl_kernel.specs.state.States.{Handler}
use Rattle.evl_scenario.specs.Lines.{line_feed}
use Rattle.evl_scenario.specs.Scenarios.{Script}
use Rattle.evl_scenario.specs.Writings.{scenario_text}
use Rattle.lab_draws.specs.Machines.{IsPictured}
use Rattle.lab_draws.specs.declared.machines.Pictured.{Pictured}
use Rattle.lab_faults.specs.Steps.{as_text}
use Rattle.lab_lines.specs.Lines.{step_of_line}
use Rattle.lab_live.specs.Answers.{Does, GoesOn, TellsScenario, TellsUnwritten, Undoes, comment_text, may_call, may_change, path_behind, script_of, trimmed}
use Rattle.lab_live.specs.Helps.{help_text, word_help}
use Rattle.lab_live.specs.Sessions.{Driven}
use Rattle.lab_live.specs.States.{state_text}
use Rattle.lab_live.specs.Wholes.{whole_text}

-- ---- lines that write no file

-- The answer to a line, by what is there but for blanks at its end: the machine stays, or has one entry more, of which
-- these are the lines, or its last call was taken back; a line that may ask for a call does what it asks for, and `undo` takes the
-- last call back; and of nothing, of a comment, of the scenario so far, of how the machine is and of help just that is reported.
pub record AnswersOther (line : List ℕ) (old new : Driven) (answer : List ℕ) : Type 0 where
  pub goes_on : GoesOn old new [] answer
  pub asked : may_call (trimmed line) ≡ true → Does old new (step_of_line (trimmed line)) [] answer
  pub stays : may_change (trimmed line) ≡ false → new ≡ old
  pub undone : trimmed line ≡ codes "undo" → Undoes old new [] answer
  pub none : trimmed line ≡ [] → answer ≡ []
  pub comment : (rest : List ℕ) → trimmed line ≡ 35 ∷ rest → answer ≡ comment_text (trimmed line)
  pub scenario : trimmed line ≡ codes "scenario" → TellsScenario (script_of old) [] answer
  pub state : trimmed line ≡ codes "ps" → answer ≡ state_text old
  pub whole : trimmed line ≡ codes "ps all" → answer ≡ whole_text old
  pub sign : trimmed line ≡ codes "?" → answer ≡ help_text
  pub help : trimmed line ≡ codes "help" → answer ≡ help_text
  pub word : (word : List ℕ) → trimmed line ≡ 63 ∷ 32 ∷ word → answer ≡ word_help (as_text word)

-- ---- lines that write a file

-- that a file was written; of a picture of several pages, that it has the first
abbrev pub written_text : List ℕ → ℕ → List ℕ
written_text path pages =
    if nat_lt 1 pages then codes "written: " ++ (path ++ (codes ", page 1 of " ++ (decimal pages ++ line_feed)))
    else codes "written: " ++ (path ++ line_feed)

abbrev pub unwritten_text : List ℕ → List ℕ
unwritten_text path = codes "! 6: " ++ (path ++ codes " can't be written\n")

-- One of both was written after the text before.
abbrev pub WritesFile : List ℕ → ℕ → List ℕ → List ℕ → Type 0
WritesFile path pages before after = (after ≡ before ++ written_text path pages) ⊎ (after ≡ before ++ unwritten_text path)

-- The scenario was written, or it was said why there is none.
abbrev pub WritesScenario : Script → List ℕ → List ℕ → List ℕ → Type 0
WritesScenario script path before after = WritesFile path 1 before after ⊎ TellsUnwritten script before after

-- So was its picture over these callbacks.
abbrev pub WritesPicture : List Handler → Script → List ℕ → List ℕ → List ℕ → Type 0
WritesPicture bank script path before after =
    ((pictured : Pictured) × IsPictured bank (scenario_text script) pictured × WritesFile path pictured.pages before after) ⊎ TellsUnwritten script before after

-- ---- any line

-- by the path after `save `, if the line has one
abbrev pub SavesOr : Option (List ℕ) → List ℕ → Driven → Driven → List ℕ → Type 0
SavesOr None line old new answer = AnswersOther line old new answer
SavesOr (Some path) line old new answer = (new ≡ old) × WritesScenario (script_of old) path [] answer

-- by the path after `draw `
abbrev pub DrawsOr : Option (List ℕ) → List ℕ → Driven → Driven → List ℕ → Type 0
DrawsOr None line old new answer = SavesOr (path_behind (codes "save ") (trimmed line)) line old new answer
DrawsOr (Some path) line old new answer = (new ≡ old) × WritesPicture old.history.bank (script_of old) path [] answer

abbrev pub AnswersLine : List ℕ → Driven → Driven → List ℕ → Type 0
AnswersLine line old new answer = DrawsOr (path_behind (codes "draw ") (trimmed line)) line old new answer
