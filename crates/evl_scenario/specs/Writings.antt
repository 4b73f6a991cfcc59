-- The text of a scenario: what is written for a board, a limit and steps.
use Rattle.std.specs.Prelude.{◌≡◌, ℕ, ◌<◌, ◌^◌, ◌==◌, Bool, true, false, ◌&&◌, nat_lt, List, [], ◌∷◌, ◌++◌, length, map, codes, decimal, if◌then◌else◌, Option, Some, None, pos}
use Rattle.std.specs.Fmt.{signed_decimal}
use Rattle.hex.specs.Hex.{encode_lower}
use Rattle.toml.specs.Data.{Data, string, integer, boolean, array, Items, no_items, item}
use Rattle.toml.specs.View.{items_of}
use Rattle.evl_base.specs.Board.{board_fits}
use Rattle.evl_base.specs.Fields.{truth_text}
use Rattle.evl_base.specs.Policy.{policy_text}
use Rattle.evl_base.specs.Stage.{stage_text}
use Rattle.evl_base.specs.Take.{take_text}
use Rattle.evl_base.specs.Way.{way_text}
use Rattle.evl_base.specs.declared.board.Board.{Board}
use Rattle.evl_base.specs.declared.call.Call.{Call}
use Rattle.evl_base.specs.declared.entry.Entry.{Entry}
use Rattle.evl_base.specs.declared.mutex_kind.MutexKind.{MutexKind}
use Rattle.evl_base.specs.declared.mutex_kind.MutexKind.TheVariants.{Normal, Recursive, Ceiling}
use Rattle.evl_scenario.specs.Boards.{is_limit}
use Rattle.evl_base.specs.Call.{call_word}
use Rattle.evl_base.specs.Calls.{told_in}
use Rattle.evl_base.specs.Fields.{Told, a_byte, a_half, a_word, a_number, a_stage, a_policy, a_take, a_way, a_bytes, a_until, a_truth, Keyed}
use Rattle.evl_scenario.specs.Scenarios.{Script}
use Rattle.evl_scenario.specs.declared.steps.Step.{Step}
use Rattle.evl_scenario.specs.declared.writing.Unwritten.{Unwritten}
use Rattle.evl_scenario.specs.declared.writing.Unwritten.TheVariants as unwritten

-- ---- values

-- a number of at most 63 bits
abbrev pub whole_number : ℕ → Data
whole_number n = integer (pos n)

-- a number of at most 64 bits: its digits as a text where no integer of TOML is as large
abbrev pub wide : ℕ → Data
wide n = if nat_lt n (2 ^ 63) then whole_number n else string (decimal n)

-- the date of a deadline, or the text `none`
abbrev pub until_data : Option ℕ → Data
until_data None = string (codes "none")
until_data (Some date) = wide date

abbrev pub kind_text : MutexKind → List ℕ
kind_text Normal = codes "normal"
kind_text Recursive = codes "recursive"
kind_text (Ceiling prio) = codes "ceiling " ++ decimal prio

abbrev pub ring_data : ℕ × ℕ → Data
ring_data sizes = array (item (whole_number sizes.0) (item (whole_number sizes.1) no_items))

abbrev pub list_data : {A : Type 0} → (A → Data) → List A → Data
list_data one xs = array (items_of (map one xs))

-- ---- keys with their values

abbrev pub Pair : Type 0
Pair = List ℕ × Data

-- what is written of a value
abbrev pub data_of : Told → Data
data_of (a_byte n) = whole_number n
data_of (a_half n) = whole_number n
data_of (a_word n) = whole_number n
data_of (a_number n) = wide n
data_of (a_stage stage) = string (stage_text stage)
data_of (a_policy policy) = string (policy_text policy)
data_of (a_take take) = string (take_text take)
data_of (a_way way) = string (way_text way)
data_of (a_bytes sent) = string (encode_lower sent.items)
data_of (a_until until) = until_data until
data_of (a_truth truth) = boolean truth

abbrev pub pair_of : Keyed → Pair
pair_of keyed = (keyed.0, data_of keyed.1)

-- rule: A history is written with all keys and reads as exactly its board, limit and steps. It is not written exactly
--   if the board has a stax or a number outside its limits, the limit is out of range, the text would be too long, or
--   memory ran out.
--   also: Writings.{board_pairs, wide}; Plays.text
--   clauses: write_scenario: reads_back, refused; write_opening; write_step
--   rows: one_step; lists; large_number; largest_integer; policy; no_bytes; each_call_is_written;
--   limit_is_that_of_a_scenario; lock_of_a_board_has_no_key; text_is_no_longer_than_a_scenario
-- the keys of a call with their values, in the order of a trace
abbrev pub call_pairs : Call → List Pair
call_pairs call = map pair_of (told_in call)

abbrev pub step_pairs : Step → List Pair
step_pairs step = (codes "do", string (call_word step.call)) ∷ (codes "who", whole_number step.who.0) ∷ call_pairs step.call

abbrev pub board_pairs : Board → List Pair
board_pairs board =
    (codes "threads", whole_number board.threads)
    ∷ (codes "sems", list_data whole_number board.sems.items)
    ∷ (codes "flags", list_data whole_number board.flags.items)
    ∷ (codes "xbufs", list_data ring_data board.xbufs.items)
    ∷ (codes "mutexes", list_data (λ kind. string (kind_text kind)) board.mutexes.items)
    ∷ (codes "groups", list_data whole_number board.groups.items) ∷ []

-- ---- texts

-- a value after its key: a text in quotes, and a list in brackets with a comma and a space between two values
abbrev mutual
  pub value_text : Data → List ℕ
  value_text (string s) = codes "\"" ++ (s ++ codes "\"")
  value_text (integer z) = signed_decimal z
  value_text (boolean b) = truth_text b
  value_text (array ds) = codes "[" ++ items_text true ds
  value_text _ = []

  pub items_text : Bool → Items → List ℕ
  items_text is_first no_items = codes "]"
  items_text is_first (item d ds) = (if is_first then [] else codes ", ") ++ (value_text d ++ items_text false ds)

-- each key with its value on a line of its own
abbrev pub pairs_text : List Pair → List ℕ
pairs_text [] = []
pairs_text (p ∷ ps) = p.0 ++ (codes " = " ++ (value_text p.1 ++ (codes "\n" ++ pairs_text ps)))

-- the limit and the board
abbrev pub opening_text : Board → ℕ → List ℕ
opening_text board limit = pairs_text ((codes "limit", whole_number limit) ∷ []) ++ (codes "\n[board]\n" ++ pairs_text (board_pairs board))

-- a step's table
abbrev pub table_text : Step → List ℕ
table_text step = codes "\n[[step]]\n" ++ pairs_text (step_pairs step)

abbrev pub tables_text : List Step → List ℕ
tables_text [] = []
tables_text (step ∷ rest) = table_text step ++ tables_text rest

-- the text of a scenario: its limit and its board, and then a table for each step, in order
abbrev pub scenario_text : Script → List ℕ
scenario_text script = opening_text script.board script.limit ++ tables_text script.steps

-- ---- what is written of a history

-- the step that an entry of a history was
abbrev pub step_of_entry : Entry → Step
step_of_entry entry = record { who = entry.caller; call = entry.call }

abbrev pub script_of_history : Board → ℕ → List Entry → Script
script_of_history board limit entries = record { board = board; limit = limit; steps = map step_of_entry entries }

-- a scenario has keys for all of the board, and takes its numbers
abbrev pub has_keys : Board → Bool
has_keys board = board_fits board && (length board.staxes.items == 0)

-- rule: Staxes on a board change neither whether a history is legal nor its trace.
--   clauses: staxes_leave_no_trace
-- a board without its stage exclusion locks, of which no call of a history speaks
abbrev pub without_staxes : Board → Board
without_staxes board = record {
  threads = board.threads;
  sems = board.sems;
  flags = board.flags;
  xbufs = board.xbufs;
  mutexes = board.mutexes;
  groups = board.groups;
  staxes = record { items = [] };
}

-- refusals: write_scenario
--   order: Board, Limit, TooLong; Memory may come before any of them
-- why there is no scenario of a board, a limit and steps: the first of these that is so
abbrev pub IsUnwritten : Unwritten → Script → Type 0
IsUnwritten unwritten.Board script = has_keys script.board ≡ false
IsUnwritten unwritten.Limit script = (has_keys script.board ≡ true) × (is_limit script.limit ≡ false)
IsUnwritten unwritten.TooLong script = (has_keys script.board ≡ true) × (is_limit script.limit ≡ true) × (1048576 < length (scenario_text script))
IsUnwritten unwritten.Memory script = Unit {0}
