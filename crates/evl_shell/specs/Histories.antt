-- The effect of the scenario of a history when it is played.
use Rattle.std.specs.Prelude.{◌≡◌, ◌≤◌, ◌↔◌, ℕ, List, length, All, None, Ok}
use Rattle.evl_base.specs.declared.board.Board.{Board}
use Rattle.evl_pipeline.specs.Plans.{IsSound}
use Rattle.evl_kernel.specs.histories.Histories.{History, IsLegal}
use Rattle.evl_kernel.specs.state.States.{Handler}
use Rattle.evl_scenario.specs.Scenarios.{scenario_of}
use Rattle.evl_scenario.specs.Traces.{history_trace}
use Rattle.evl_scenario.specs.Writings.{script_of_history, without_staxes}
use Rattle.evl_shell.specs.Runs.{trace_of}

-- each callback of a bank declares the kinds of its actions, and has periods of 1 and more
abbrev pub AreSound : List Handler → Type 0
AreSound bank = All (λ handler. IsSound handler.kinds handler.plan) bank

-- the same board, but for stage exclusion locks
abbrev pub IsPlayedAs : Board → Board → Type 0
IsPlayedAs board other = without_staxes board ≡ without_staxes other

-- Any text that is read as this board, this limit and the calls of this history writes this trace, when it is played over
-- the history's bank.
abbrev pub PlaysAgain : History → Board → ℕ → List ℕ → Type 0
PlaysAgain h board limit trace =
    (text : List ℕ) → scenario_of None text ≡ Ok (script_of_history board limit h.entries) → trace_of h.bank None text ≡ Ok trace

-- so it is with the trace of a legal history over sound callbacks, for its own board and any limit that it keeps
abbrev pub HistoriesPlayAgain : Type 0
HistoriesPlayAgain =
    (h : History) (board : Board) (limit : ℕ) → IsLegal h → AreSound h.bank → IsPlayedAs board h.board → length h.entries ≤ limit
    → PlaysAgain h board limit (history_trace board limit h.entries h.plays)

-- the same history over another board
abbrev pub over_board : History → Board → History
over_board h board = record { board = board; bank = h.bank; entries = h.entries; plays = h.plays; state = h.state }

-- a history is legal over its board just where it is so over the board without stage exclusion locks, and has the same trace
abbrev pub StaxesLeaveNoTrace : Type 0
StaxesLeaveNoTrace =
    (h : History) → (IsLegal h ↔ IsLegal (over_board h (without_staxes h.board)))
    × ((limit : ℕ) → history_trace h.board limit h.entries h.plays ≡ history_trace (without_staxes h.board) limit h.entries h.plays)
