-- The trace of a history.
use Rattle.std.specs.Prelude.{ℕ, ◌+◌, List, [], ◌∷◌, ◌++◌, take, drop, Some}
use Rattle.evl_base.specs.declared.board.Board.{Board}
use Rattle.evl_base.specs.declared.entry.Entry.{Entry}
use Rattle.evl_base.specs.declared.play.Play.{Play}
use Rattle.evl_scenario.specs.Lines.{board_line_of, board_line_text, line_text, play_lines}
use Rattle.evl_scenario.specs.Writings.{step_of_entry}

-- the line of an entry that has this number: who made which call, and what it answered
abbrev pub entry_line : ℕ → Entry → List ℕ
entry_line number entry = line_text (Some number) (step_of_entry entry) entry.reply

-- rule: A history's trace is the board's line and, for each entry, its line, numbered from 1, and one for each of its
--   plays; or memory ran out.
--   also: Traces.{lines_behind, history_trace}
--   clauses: histories_play_again; trace_history; write_board_line; write_entry; trace_kernel
--   rows: history_is_traced_as_it_is_run; plays_are_traced_as_they_are_run
-- and the lines of its plays
abbrev pub entry_lines : ℕ → Entry → List Play → List ℕ
entry_lines number entry plays = entry_line number entry ++ play_lines plays

-- the lines of entries that come after so many others; of the plays that are left each takes as many as it counts
abbrev pub lines_behind : ℕ → List Entry → List Play → List ℕ
lines_behind count [] plays = []
lines_behind count (entry ∷ rest) plays =
    entry_lines (count + 1) entry (take entry.plays plays) ++ lines_behind (count + 1) rest (drop entry.plays plays)

-- the trace of a history: the line of its board and limit, and the lines of all entries, in order
abbrev pub history_trace : Board → ℕ → List Entry → List Play → List ℕ
history_trace board limit entries plays = board_line_text (board_line_of board limit) ++ lines_behind 0 entries plays
