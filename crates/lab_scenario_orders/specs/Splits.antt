-- The parts of a text of callers, line by line.
use Rattle.std.specs.Prelude.{ℕ, ◌≡◌, ◌==◌, Bool, true, false, ◌&&◌, ◌||◌, List, [], ◌∷◌, ◌++◌, codes, count_by, flat_map, if◌then◌else◌, string_bytes}
use Rattle.std.specs.Option.{option_map_or}
use Rattle.std.specs.List.{before_first, list_any}
use Rattle.std.specs.Str.{bytes_eq, trim}
use Rattle.std.specs.Str.Lines.{lines}
use Rattle.evl_scenario.specs.Lines.{line_feed}
use Rattle.evl_scenario.specs.Values.{past_front}
use Rattle.lab_scenario_orders.specs.Asks.{begins}
use Rattle.lab_scenario_orders.specs.declared.splits.Split.{Split}

-- a line without its comment and the white space around it
abbrev pub bare : List ℕ → List ℕ
bare line = trim (before_first (λ byte. byte == 35) line)

-- this name, and then this end
abbrev pub ends_head : List ℕ → List ℕ → List ℕ → Bool
ends_head name end text = option_map_or (λ rest. bytes_eq (trim rest) end) (past_front name text) false

-- just this name is on a line between these brackets, with white space around it or not
abbrev pub is_head : List ℕ → List ℕ → List ℕ → List ℕ → Bool
is_head begin name end line = option_map_or (λ rest. ends_head name end (trim rest)) (past_front begin (bare line)) false

abbrev pub is_setup : List ℕ → Bool
is_setup line = is_head (codes "[[") (codes "setup") (codes "]]") line

abbrev pub is_step : List ℕ → Bool
is_step line = is_head (codes "[[") (codes "step") (codes "]]") line

abbrev pub is_ask : List ℕ → Bool
is_ask line = is_head (codes "[") (codes "ask") (codes "]") line

-- a table begins here
abbrev pub is_table : List ℕ → Bool
is_table line = begins (codes "[") (bare line)

-- the line is in a table `[ask]`: it begins one, or the line before it was in one and it begins no other
abbrev pub is_asked : Bool → List ℕ → Bool
is_asked was line = if is_table line then is_ask line else was

-- the lines of tables `[ask]`, where the line before these was in one or not
abbrev pub asked_lines : Bool → List (List ℕ) → List (List ℕ)
asked_lines was [] = []
asked_lines was (line ∷ rest) = if is_asked was line then line ∷ asked_lines true rest else asked_lines false rest

-- the other lines, in which each step that is set up is a step
abbrev pub as_step : List ℕ → List ℕ
as_step line = if is_setup line then codes "[[step]]" else line

abbrev pub scenario_lines : Bool → List (List ℕ) → List (List ℕ)
scenario_lines was [] = []
scenario_lines was (line ∷ rest) = if is_asked was line then scenario_lines true rest else as_step line ∷ scenario_lines false rest

-- a step is before one that is set up
abbrev pub is_mixed : List (List ℕ) → Bool
is_mixed [] = false
is_mixed (line ∷ rest) = (is_step line && list_any is_setup rest) || is_mixed rest

-- a text of these lines
abbrev pub joined_lines : List (List ℕ) → List ℕ
joined_lines all = flat_map (λ line. line ++ line_feed) all

-- the scenario in a text, how many of its steps are set up, and the tables `[ask]`
abbrev pub scenario_part : List ℕ → List ℕ
scenario_part text = joined_lines (scenario_lines false (lines text))

abbrev pub setup_count : List ℕ → ℕ
setup_count text = count_by is_setup (lines text)

abbrev pub ask_part : List ℕ → List ℕ
ask_part text = joined_lines (asked_lines false (lines text))

pub record IsSplit (text : List ℕ) (split : Split) : Type 0 where
  pub scenario : string_bytes split.scenario ≡ scenario_part text
  pub setup : split.setup ≡ setup_count text
  pub mixed : split.is_mixed ≡ is_mixed (lines text)
  pub ask : string_bytes split.ask ≡ ask_part text
