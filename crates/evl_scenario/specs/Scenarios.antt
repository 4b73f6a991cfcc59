-- The scenario that a text is.
use Rattle.std.specs.Prelude.{ℕ, ◌+◌, ◌-◌, ◌^◌, min, nat_lt, ◌&&◌, is_some, Bool, true, List, [], ◌∷◌, length, if◌then◌else◌, Option, Some, None, option_map, option_and_then, codes, Result, Ok, Err}
use Rattle.std.specs.Str.{is_utf8}
use Rattle.toml.specs.Data.{Data, Items, no_items, item, Members, get_member, as_table, as_array}
use Rattle.toml.specs.Parse.{parse_document}
use Rattle.evl_base.specs.declared.board.Board.{Board}
use Rattle.evl_scenario.specs.declared.faults.Fault.{Fault}
use Rattle.evl_scenario.specs.declared.faults.Fault.TheVariants as fault
use Rattle.evl_scenario.specs.declared.steps.Step.{Step}
use Rattle.evl_scenario.specs.Boards.{board_of, limit_of}
use Rattle.evl_scenario.specs.Steps.{step_of}
use Rattle.evl_scenario.specs.Tables.{has_only}

-- what a text asks to be played
pub record Script : Type 0 where
  pub board : Board
  pub limit : ℕ
  pub steps : List Step

-- each item is a table
abbrev pub are_tables : Items → Bool
are_tables no_items = true
are_tables (item value rest) = is_some (as_table value) && are_tables rest

abbrev pub tables_only : Items → Option Items
tables_only values = if are_tables values then Some values else None

-- the tables of the steps
abbrev pub step_tables : Option Data → Option Items
step_tables None = Some no_items
step_tables (Some value) = option_and_then tables_only (as_array value)

-- the fault of the step with this number
abbrev pub step_fault : ℕ → Fault
step_fault n = fault.Step (min n (2 ^ 32 - 1))

abbrev pub with_first : ℕ → Option Step → Result (List Step) Fault → Result (List Step) Fault
with_first n None rest = Err (step_fault n)
with_first n (Some step) (Ok steps) = Ok (step ∷ steps)
with_first n (Some step) (Err e) = Err e

-- the steps from this number on, or the fault of the first that can't be read
abbrev pub steps_of : ℕ → Items → Result (List Step) Fault
steps_of n no_items = Ok []
steps_of n (item value rest) = with_first n (step_of value) (steps_of (n + 1) rest)

abbrev pub document_keys : List (List ℕ)
document_keys = codes "limit" ∷ codes "board" ∷ codes "step" ∷ []

-- rule: A text without a board or its threads is a bad board. An unknown step word is a bad step.
--   also: Boards.board_with; Steps.word_of
--   rows: longest_text; bad_boards
-- the board and the limit
abbrev pub opening_of : Option ℕ → Members → Option (Board × ℕ)
opening_of given ms =
    if has_only document_keys ms
    then option_and_then (λ board. option_map (λ limit. (board, limit)) (limit_of given ms))
    (option_and_then board_of (option_and_then as_table (get_member (codes "board") ms)))
    else None

abbrev pub script_with : Board × ℕ → Result (List Step) Fault → Result Script Fault
script_with opening (Ok steps) = Ok (record { board = opening.0; limit = opening.1; steps = steps })
script_with opening (Err e) = Err e

abbrev pub script_opened : Option (Board × ℕ) → Option Items → Result Script Fault
script_opened None values = Err fault.Board
script_opened (Some opening) None = Err fault.Board
script_opened (Some opening) (Some values) = script_with opening (steps_of 1 values)

-- what a document asks to be played
abbrev pub script_of : Option ℕ → Members → Result Script Fault
script_of given ms = script_opened (opening_of given ms) (step_tables (get_member (codes "step") ms))

abbrev pub document_script : Option ℕ → Option Members → Result Script Fault
document_script given None = Err fault.Text
document_script given (Some ms) = script_of given ms

-- rule: The text is checked whole (length and UTF-8, TOML, board and limit, then steps); at the first fault nothing is
--   written.
--   also: Scenarios.script_opened
--   clauses: run
--   rows: bad_texts; longest_text; cut_after_board; cut_in_a_key; cut_in_the_second_step; open_quote;
--   each_cut_has_its_fault
-- refusals: run
--   order: Text, Board, Step; Memory may come before any of them, Write after them
--   clauses: run: refused, memory, write
-- what a text asks to be played
abbrev pub scenario_of : Option ℕ → List ℕ → Result Script Fault
scenario_of given text =
    if nat_lt 1048576 (length text) then Err fault.Text
    else if is_utf8 text then document_script given (parse_document text)
    else Err fault.Text
