-- Lines that texts of steps have beside those of texts of callers: `lasts` of a step, and the table `[what_if]`.
use Rattle.std.specs.Prelude.{ℕ, ◌+◌, Bool, false, ◌||◌, ◌&&◌, nat_eq, not, List, [], ◌∷◌, ◌++◌, Option, None, Some, codes, if◌then◌else◌, option_and_then, option_map}
use Rattle.std.specs.List.{ends_with}
use Rattle.std.specs.Option.{option_map_or}
use Rattle.std.specs.Str.{bytes_eq, trim}
use Rattle.std.specs.Str.Lines.{lines}
use Rattle.evl_scenario.specs.Lines.{line_feed}
use Rattle.evl_scenario.specs.Values.{past_front}
use Rattle.lab_scenario_orders.specs.Asks.{begins}
use Rattle.lab_scenario_orders.specs.KeyLines.{around_equals, key_set}
use Rattle.lab_scenario_orders.specs.Splits.{as_step, bare, is_asked, is_head, is_table}

-- to what a line sets a key, if it does
abbrev pub value_set : List ℕ → List ℕ → Option (List ℕ)
value_set key line = option_map trim (option_and_then (λ rest. past_front (codes "=") (trim rest)) (past_front key (bare line)))

abbrev pub is_set_to : List ℕ → List ℕ → List ℕ → Bool
is_set_to key value line = option_map_or (λ text. bytes_eq text value) (value_set key line) false

abbrev pub is_lasts : List ℕ → Bool
is_lasts line = is_set_to (codes "lasts") (codes "true") line || is_set_to (codes "lasts") (codes "false") line

abbrev pub is_what_if_head : List ℕ → Bool
is_what_if_head line = is_head (codes "[") (codes "what_if") (codes "]") line

-- a line is in such a table, where the one before it was or was not
abbrev pub is_what_if : Bool → List ℕ → Bool
is_what_if was line = if is_table line then is_what_if_head line else was

-- a line of a text of steps alone, which is in such a table or not
abbrev pub is_own : Bool → List ℕ → Bool
is_own is line = is || is_lasts line

-- the lines of the text of callers, each at its place: empty where they are of what is asked, or of steps alone
abbrev pub plain_line : Bool → List ℕ → List ℕ
plain_line is line = if is then line_feed else as_step line ++ line_feed

abbrev pub plain_from : Bool → Bool → List (List ℕ) → List ℕ
plain_from asked own [] = []
plain_from asked own (line ∷ rest) =
    plain_line (is_asked asked line || is_own (is_what_if own line) line) line ++ plain_from (is_asked asked line) (is_what_if own line) rest

abbrev pub plain_within : List ℕ → List ℕ
plain_within text = plain_from false false (lines text)

-- ---- what is asked

-- a line sets a key that asks of moments
abbrev pub is_question_key : List ℕ → Bool
is_question_key key = (bytes_eq key (codes "never_state") || bytes_eq key (codes "sometimes")) || bytes_eq key (codes "always")

abbrev pub is_question : List ℕ → Bool
is_question line = option_map_or is_question_key (key_set line) false

-- a list of texts begins and ends here, with a bracket and a quote
abbrev pub is_closed : List ℕ → Bool
is_closed value = begins (codes "[\"") value && ends_with nat_eq value (codes "\"]")

-- the facts of a question aren't such a list on its line
abbrev pub is_open : List ℕ → Bool
is_open line = option_map_or (λ parts. is_question_key (trim parts.0) && not (is_closed (trim parts.1))) (around_equals (bare line)) false

-- the number of the first such line, where these are numbered from n
abbrev pub open_from : ℕ → List (List ℕ) → Option ℕ
open_from n [] = None
open_from n (line ∷ rest) = if is_open line then Some n else open_from (n + 1) rest

abbrev pub open_question : List ℕ → Option ℕ
open_question asked = open_from 1 (lines asked)

-- the other lines of what is asked, each at its place
abbrev pub unquestioned_line : Bool → List ℕ → List ℕ
unquestioned_line is line = if is then line ++ line_feed else line_feed

abbrev pub unquestioned_from : Bool → List (List ℕ) → List ℕ
unquestioned_from was [] = []
unquestioned_from was (line ∷ rest) = unquestioned_line (is_asked was line && not (is_question line)) line ++ unquestioned_from (is_asked was line) rest

abbrev pub unquestioned_within : List ℕ → List ℕ
unquestioned_within text = unquestioned_from false (lines text)
