-- C's view of a text.
use Rattle.std.specs.Prelude.{◌≡◌, ℕ, List, ◌∷◌, length, map, None, Ok, codes}
use Rattle.std.specs.List.{join_by}
use Rattle.evl_base.specs.Calls.{name_of, fields_of}
use Rattle.evl_scenario.specs.Scenarios.{Script, scenario_of}
use Rattle.evl_scenario.specs.Writings.{IsUnwritten}
use Rattle.evl_base.specs.declared.call.StepWord.{StepWord}
use Rattle.evl_scenario.specs.declared.writing.Unwritten.{Unwritten}
use Rattle.evl_scenario.specs.declared.writing.Unwritten.TheVariants.{Board, Limit, TooLong, Memory}
use Rattle.evl_c.specs.Windows.{window}

-- the text from its byte `start` on is in the buffer, and C got its length
abbrev pub TellsText : List ℕ → ℕ → List ℕ → List ℕ → ℕ → Type 0
TellsText text start old new told = (new ≡ window text start old) × (told ≡ length text)

-- rule: C's view of a play, a question, the trace and the scenario is what the kernel's history and state say; why
--   there is none is exact. The scenario reads as the history; that each call gives the same text is proved of the
--   handle (`scenario_text`), not of the export.
--   clauses: evlsim_c_event; told; evlsim_c_ask; evlsim_c_trace; evlsim_c_scenario
-- a text that asks for just this, read as a scenario, is in the buffer from its byte `start` on, and C got its length
pub record TellsScenario (script : Script) (start : ℕ) (old new : List ℕ) (told : ℕ) : Type 0 where
  pub text : List ℕ
  pub reads : scenario_of None text ≡ Ok script
  pub tells : TellsText text start old new told

-- the text of a word: its name and its keys, with blanks between
abbrev pub text_of : StepWord → List ℕ
text_of word = join_by (λ text. text) (codes " ") (name_of word ∷ map (λ key. key.name) (fields_of word))

-- the status that says why a scenario can't be written
abbrev pub status_of : Unwritten → ℕ
status_of Board = 2
status_of Limit = 2
status_of TooLong = 8
status_of Memory = 4

-- this scenario can't be written, for the reason that the status names
pub record Unwrites (script : Script) (status : ℕ) : Type 0 where
  pub why : Unwritten
  pub is_so : IsUnwritten why script
  pub tells : status ≡ status_of why
