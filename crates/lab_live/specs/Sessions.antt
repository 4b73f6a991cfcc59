-- A driven machine, what it was opened with, and what it says of a call.
use Rattle.std.specs.Prelude.{◌≡◌, ◌⊎◌, ◌≤◌, ◌-◌, ℕ, List, [], ◌∷◌, ◌++◌, length, map, take, None, Err}
use Rattle.evl_base.specs.declared.board.Board.{Board}
use Rattle.evl_base.specs.declared.entry.Entry.{Entry}
use Rattle.evl_base.specs.declared.play.Play.{Play}
use Rattle.evl_base.specs.declared.refusal.Refusal.TheVariants.{HistoryFull}
use Rattle.evl_kernel.specs.histories.Histories.{Extends, History, IsLegal}
use Rattle.evl_kernel.specs.state.States.{Handler}
use Rattle.evl_scenario.specs.Lines.{line_text}
use Rattle.evl_scenario.specs.Scenarios.{Script}
use Rattle.evl_scenario.specs.Traces.{entry_lines, history_trace}
use Rattle.evl_scenario.specs.Writings.{step_of_entry}
use Rattle.evl_scenario.specs.declared.steps.Step.{Step}
use Rattle.evl_shell.specs.Histories.{AreSound}

-- the board and the limit that it was opened with, and all that it was asked since
pub record Driven : Type 0 where
  pub board : Board
  pub limit : ℕ
  pub history : History

-- the history is of this board, no longer than the limit, and over sound callbacks
pub record IsDriven (driven : Driven) : Type 0 where
  pub board : driven.history.board ≡ driven.board
  pub within : length driven.history.entries ≤ driven.limit
  -- rule: A callback made of a plan answers that plan and has rows of declared kinds only, so it is sound. One made of
  --   rows declares exactly their kinds; `Planned::new` may declare more.
  --   clauses: Planned::{new, kinds, of_rows}
  pub sound : AreSound driven.history.bank

-- what a history has asked for, and of these steps as many as its limit leaves room for
abbrev pub asked_under : ℕ → History → List Step → List Step
asked_under limit h steps = map step_of_entry h.entries ++ take (limit - length h.entries) steps

-- A machine over these callbacks, of a scenario's board and limit, was asked for the scenario's steps in order, as many as its limit leaves room for.
pub record Opens (script : Script) (bank : List Handler) (driven : Driven) : Type 0 where
  pub board : driven.board ≡ script.board
  pub limit : driven.limit ≡ script.limit
  pub bank_is : driven.history.bank ≡ bank
  pub asked : map step_of_entry driven.history.entries ≡ take script.limit script.steps

-- The board and the bank stay, and a history that was no longer than the limit is so still.
pub record KeepsWithin (limit : ℕ) (old new : History) : Type 0 where
  pub board : new.board ≡ old.board
  -- rule: The program's callbacks as plans are those of its bank.
  --   clauses: program_plans
  --   rows: the_program_is_a_bank
  pub bank : new.bank ≡ old.bank
  pub within : length old.entries ≤ limit → length new.entries ≤ limit

-- The history has one entry more, that of this step.
pub record Enters (old : History) (step : Step) (new : History) : Type 0 where
  pub entry : Entry
  pub plays : List Play
  pub extends : Extends old new entry plays
  pub asked : (entry.caller ≡ step.who) × (entry.call ≡ step.call)

-- The history has one entry more, that of this step, or is as it was.
abbrev pub MayEnter : History → Step → History → Type 0
MayEnter old step new = (new ≡ old) ⊎ Enters old step new

-- all but the last of some entries
abbrev pub all_but_last : List Entry → List Entry
all_but_last entries = take (length entries - 1) entries

-- rule: `undo` takes the last call back, and prints it: the history is the run of the calls before it, over the same
--   board, limit and callbacks. Without a call it says so; if no scenario of the calls before can be written it gives
--   the true reason; then nothing changes.
--   also: Answers.Undoes
--   clauses: Session::undo; answer_line: undone
--   rows: calls_are_taken_back
-- The last call was taken back: board and limit stay, and the history is the run of its calls, which with one entry more and its plays is the one that was.
pub record TakesBack (old new : Driven) : Type 0 where
  pub board : new.board ≡ old.board
  pub limit : new.limit ≡ old.limit
  pub legal : IsLegal new.history
  pub entry : Entry
  pub plays : List Play
  pub extends : Extends new.history old.history entry plays

-- The machine stays, or its last call was taken back.
abbrev pub MayTakeBack : Driven → Driven → Type 0
MayTakeBack old new = (new ≡ old) ⊎ TakesBack old new

-- The history has one entry more, that of this step, and what was said after the text before are the lines of that entry and of its plays.
pub record TellsEntry (old new : History) (step : Step) (before after : List ℕ) : Type 0 where
  pub entry : Entry
  pub plays : List Play
  pub asked : (entry.caller ≡ step.who) × (entry.call ≡ step.call)
  pub entries_are : new.entries ≡ old.entries ++ entry ∷ []
  pub plays_are : new.plays ≡ old.plays ++ plays
  pub counted : entry.plays ≡ length plays
  pub told : after ≡ before ++ entry_lines (length new.entries) entry plays

-- The text written after the text before is the lines by which the trace of all that was asked grew.
pub record TellsTrace (old new : Driven) (before after : List ℕ) : Type 0 where
  pub lines : List ℕ
  pub told : after ≡ before ++ lines
  -- rule: Its scenario is the text of its board, limit and calls, and asks for exactly these; if there is none the true
  --   reason is given. Its trace is its history's, which that scenario writes over the same bank.
  --   clauses: Session::scenario: reads_back, refused; Session::trace: plays_again
  --   rows: what_was_asked_plays_again
  pub trace : history_trace new.board new.limit new.history.entries new.history.plays
      ≡ history_trace old.board old.limit old.history.entries old.history.plays ++ lines

-- The history is full: it stays, and what was written is the line of a step that has no entry.
pub record TellsFull (old new : Driven) (step : Step) (before after : List ℕ) : Type 0 where
  pub same : new ≡ old
  pub told : after ≡ before ++ line_text None step (Err HistoryFull)
