-- Which line of a text sets a key of what is asked.
use Rattle.std.specs.Prelude.{ℕ, ◌≡◌, ◌==◌, ◌+◌, nat_lt, Bool, false, ◌&&◌, not, List, [], ◌∷◌, codes, if◌then◌else◌, length, Option, Some, None, option_map}
use Rattle.std.specs.List.{after_first, before_first, list_any, position_or_len}
use Rattle.std.specs.Option.{option_map_or}
use Rattle.std.specs.Str.{bytes_eq, trim}
use Rattle.std.specs.Str.Lines.{lines}
use Rattle.lab_scenario_orders.specs.Asks.{ask_keys}
use Rattle.lab_scenario_orders.specs.Splits.{bare, is_asked}
use Rattle.lab_scenario_orders.specs.declared.asks.AskFault.{AskFault}
use Rattle.lab_scenario_orders.specs.declared.asks.AskFault.TheVariants as fault
use Rattle.lab_scenario_orders.specs.declared.asks.AskKey.{AskKey}
use Rattle.lab_scenario_orders.specs.declared.asks.AskKey.TheVariants as key

-- what comes before the first `=`, and what after it
abbrev pub around_equals : List ℕ → Option (List ℕ × List ℕ)
around_equals text =
    if nat_lt (position_or_len (λ byte. byte == 61) text) (length text)
    then Some (before_first (λ byte. byte == 61) text, after_first (λ byte. byte == 61) text)
    else None

-- the key that a line sets
abbrev pub key_set : List ℕ → Option (List ℕ)
key_set line = option_map (λ parts. trim parts.0) (around_equals (bare line))

-- a line sets this key, or, where none is named, a key that isn't among these
abbrev pub is_set_by : List (List ℕ) → Option (List ℕ) → List ℕ → Bool
is_set_by known named line = option_map_or (λ key. option_map_or (bytes_eq key) named (not (list_any (bytes_eq key) known))) (key_set line) false

-- the number of the first line in a table `[ask]` that sets it, where these lines are numbered from n
abbrev pub number_set : List (List ℕ) → Option (List ℕ) → Bool → ℕ → List (List ℕ) → Option ℕ
number_set known named was n [] = None
number_set known named was n (line ∷ rest) =
    if is_asked was line && is_set_by known named line then Some n else number_set known named (is_asked was line) (n + 1) rest

-- the number, from 1, of the first line of a text that sets this key in a table `[ask]`, or, where none is named, one that
-- such a table doesn't have
abbrev pub line_set : Option (List ℕ) → List ℕ → Option ℕ
line_set named text = number_set ask_keys named false 1 (lines text)

-- a key's name; a key that such a table doesn't have has none
abbrev pub key_name : AskKey → Option (List ℕ)
key_name key.Never = Some (codes "never")
key_name key.AlwaysEnds = Some (codes "always_ends")
key_name key.EndsWaits = Some (codes "ends_waits")
key_name key.AsPicked = Some (codes "as_picked")
key_name key.NeverState = Some (codes "never_state")
key_name key.Sometimes = Some (codes "sometimes")
key_name key.Always = Some (codes "always")
key_name key.Outcomes = Some (codes "outcomes")
key_name key.Other = None

-- rule: A text is split by lines into tables `[ask]` and a scenario, of which it has the board, limit and steps, and
--   how many are set up. The tables say all that is asked; `never` names only callers, each with one answer,
--   without white space around either; a key's fault has the first line that sets the key. A report says that somebody
--   is stuck exactly if one of its lines does.
--   also: Callers.scenario; Asks.{who, parted}
--   clauses: split_text; read_callers; read_ask; Never::asks; is_stuck
--   rows: a_report_tells_first_who_is_stuck; blanks_may_stand_within_the_brackets_of_a_head;
--   just_one_answer_of_a_caller_is_meant; orders_as_threads_are_picked_are_asked_for; what_cant_be_asked_is_refused;
--   what_is_asked_stands_apart
-- a fault of a key, or of facts at it, has the line that sets it
abbrev pub IsPlaced : List ℕ → AskFault → Type 0
IsPlaced text (fault.Key key line) = line ≡ line_set (key_name key) text
IsPlaced text (fault.Facts key n why line) = line ≡ line_set (key_name key) text
IsPlaced text _ = Unit {0}
