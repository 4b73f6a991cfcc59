-- The words for what is asked.
use Rattle.std.specs.Prelude.{ℕ, List, ◌++◌, codes, decimal, Option, Some, None, option_map}
use Rattle.lab_kinds.specs.Asking.{ask_line, ask_words, impossible_words}
use Rattle.lab_scenario_orders.specs.declared.asks.AskFault.{AskFault}
use Rattle.lab_scenario_orders.specs.declared.asks.Never.{Never}

-- where a line is found
abbrev pub line_words : Option ℕ → List ℕ
line_words None = codes ""
line_words (Some line) = codes "line " ++ (decimal line ++ codes ": ")

abbrev pub ask_fault_line : List ℕ → AskFault → Option (List ℕ)
ask_fault_line name fault = option_map (λ words. name ++ (codes ": " ++ (line_words (ask_line fault) ++ (words ++ codes "\n")))) (ask_words fault)

-- an answer that no step of its caller can have, with what may be meant
abbrev pub impossible_text : List ℕ → Never → Option (List ℕ) → List ℕ
impossible_text name never meant = name ++ (codes ": " ++ (impossible_words never meant ++ codes "\n"))
