-- A run's history as two texts.
use Rattle.std.specs.Prelude.{◌≡◌, ◌<◌, ℕ, List, Ok, None, false, length, string_bytes}
use Rattle.evl_base.specs.declared.board.Board.{Board}
use Rattle.evl_base.specs.declared.refusal.Refusal.TheVariants.{NoMemory}
use Rattle.evl_kernel.specs.histories.Histories.{History, IsLegal}
use Rattle.evl_kernel.specs.state.KernelViews.{KernelView}
use Rattle.evl_kernel.specs.state.States.{Handler}
use Rattle.evl_core.specs.accounts.Accounts.{HasNoStranger}
use Rattle.evl_machine.specs.callers.Handles.{CallerState, MachineState}
use Rattle.evl_machine.specs.calls.Closings.{Closes}
use Rattle.evl_scenario.specs.Traces.{history_trace}
use Rattle.evl_scenario.specs.Writings.{has_keys, scenario_text, script_of_history, without_staxes}
use Rattle.evl_scenario.specs.declared.writing.Unwritten.TheVariants as unwritten
use Rattle.evl_shell.specs.Runs.{trace_of}
use Rattle.test_hosts.specs.Boards.{shared_board}
use Rattle.test_hosts.specs.declared.texts.Failure.{Failure}
use Rattle.test_hosts.specs.declared.texts.Failure.TheVariants.{Refused, Unwritten, Differs}
use Rattle.test_hosts.specs.declared.texts.Texts.{Texts}

-- the scenario, played over this bank, writes just the trace
abbrev pub IsPlayedSo : List Handler → Texts → Type 0
IsPlayedSo bank texts = trace_of bank None (string_bytes texts.scenario) ≡ Ok (string_bytes texts.trace)

-- rule: A run of host threads comes back, for every interleaving, with the scenario and the trace of one legal history
--   of its board, in which nobody calls but its callers. The scenario, played over the program's bank, writes just that
--   trace.
--   also: Texts.{AreTextsOfCallers, AreTextsOfRun, IsPlayedSo}
--   clauses: run_hosts; texts_of
-- the two texts of a history: the scenario of its calls, and its trace, over this board without its stage exclusion locks
pub record AreTextsOf (board : Board) (h : History) (texts : Texts) : Type 0 where
  pub scenario : string_bytes texts.scenario ≡ scenario_text (script_of_history (without_staxes board) 1000000 h.entries)
  pub trace : string_bytes texts.trace ≡ history_trace (without_staxes board) 1000000 h.entries h.plays

module _ {C : Type 0} where
  -- those of the kernel with which these callers close their machine
  pub record AreTextsOfCallers (machine : MachineState C) (callers : List (CallerState C)) (texts : Texts) : Type 0 where
    pub kernel : KernelView C
    pub closes : Closes machine callers kernel
    pub are_texts : AreTextsOf machine.first.history.board kernel.history texts

-- Those of a run of so many threads over this bank: of one legal history of their board, in which only they call. The scenario, played over the bank, writes just the trace
pub record AreTextsOfRun (threads : ℕ) (bank : List Handler) (texts : Texts) : Type 0 where
  pub history : History
  pub legal : IsLegal history
  pub board_is : history.board ≡ shared_board threads
  pub bank_is : history.bank ≡ bank
  pub strangers : HasNoStranger history
  pub are_texts : AreTextsOf (shared_board threads) history texts
  pub played : IsPlayedSo bank texts

-- why a history has no texts: a board that no scenario has, more entries than a limit may be, a scenario that would be too
-- long, or want of memory
abbrev pub IsUntold : History → Failure → Type 0
IsUntold h (Unwritten unwritten.Board) = has_keys (without_staxes h.board) ≡ false
IsUntold h (Unwritten unwritten.Limit) = 1000000 < length h.entries
IsUntold h (Unwritten unwritten.TooLong) = 1048576 < length (scenario_text (script_of_history (without_staxes h.board) 1000000 h.entries))
IsUntold h (Unwritten unwritten.Memory) = Unit {0}
IsUntold h (Refused refusal) = refusal ≡ NoMemory
IsUntold h (Differs takes) = ⊥
