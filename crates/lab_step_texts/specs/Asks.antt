-- The questions of a text about the orders of steps.
use Rattle.std.specs.Prelude.{ℕ, ◌≡◌, ◌⊎◌, Bool, true, false, List, [], ◌∷◌, IsSomeAnd, map, option_and_then}
use Rattle.std.specs.Str.{is_utf8}
use Rattle.toml.specs.Parse.{parse_document}
use Rattle.lab_scenario_orders.specs.AskFaults.{IsWhyOf}
use Rattle.lab_scenario_orders.specs.Asks.{Asks, ask_table}
use Rattle.lab_scenario_orders.specs.Splits.{ask_part}
use Rattle.lab_scenario_orders.specs.declared.asks.Ask.{Ask}
use Rattle.lab_scenario_orders.specs.declared.asks.AskFault.{AskFault}
use Rattle.lab_scenario_orders.specs.declared.asks.AskFault.TheVariants as fault
use Rattle.lab_scenario_orders.specs.declared.callers.Callers.{Callers}
use Rattle.lab_scenario_orders.specs.declared.watches.Watch.{Watch}
use Rattle.lab_step_orders.specs.declared.crews.Crew.{Crew}
use Rattle.lab_step_texts.specs.Questions.{unasked_part}

-- what is read, which asks nothing of moments, with the crew's questions
pub record AreJoined (crew : Crew) (read asks : Ask) : Type 0 where
  pub none : read.watches.items ≡ []
  pub never : asks.never ≡ read.never
  pub always_ends : asks.always_ends ≡ read.always_ends
  pub ends_waits : asks.ends_waits ≡ read.ends_waits
  pub as_picked : asks.as_picked ≡ read.as_picked
  pub outcomes : asks.outcomes ≡ read.outcomes
  pub states : map (λ watch. watch.when) asks.watches.items ≡ map (λ watch. watch.when) crew.watches.items

abbrev pub are_none : List Watch → Bool
are_none [] = true
are_none (one ∷ rest) = false

-- the tables `[ask]` of a text without the lines of questions can't be asked of some callers, or ask of moments
abbrev pub IsWhyJoined : List ℕ → AskFault → Type 0
IsWhyJoined plain e =
    ((callers : Callers) × IsWhyOf callers.callers.items callers.board plain e)
    ⊎ ((e ≡ fault.Table) × ((read : Ask) × IsSomeAnd (option_and_then ask_table (parse_document (ask_part plain))) (λ table. Asks table read) × (are_none read.watches.items ≡ false)))

-- why a text asks nothing of the orders of steps
abbrev pub IsUnaskedFor : List ℕ → AskFault → Type 0
IsUnaskedFor text e = (e ≡ fault.Memory) ⊎ (((e ≡ fault.Table) × (is_utf8 text ≡ false)) ⊎ IsWhyJoined (unasked_part text) e)

-- rule: The questions are what the tables say; questions about moments are those of their lines, and name what the board
--   has; a line that sets no list of texts, or a text of which a part between ` and `s is no fact, is reported, with
--   its number and a word that may be meant. Any other question is refused only for what is wrong with it. The first
--   answer of `never` that no call of its caller can have is reported.
--   also: Asks.IsUnaskedFor; Questions.{AreAsked, are_there, IsUnasked}; Near.near_word; Answers.{answers_of,
--   first_impossible}
--   clauses: read_step_ask; read_steps; first_impossible
-- the tables `[ask]` of a text ask this
abbrev pub IsAskOf : List ℕ → Crew → Ask → Type 0
IsAskOf text crew asks =
    (read : Ask) × IsSomeAnd (option_and_then ask_table (parse_document (ask_part (unasked_part text)))) (λ table. Asks table read) × AreJoined crew read asks
