-- The report of `lab orders` on one order alone.
use Rattle.std.specs.Prelude.{◌≡◌, ◌⊎◌, ℕ, List, ◌++◌, codes, decimal, map, Option, Some, None, IsSomeAnd, option_map, unwrap_or}
use Rattle.evl_kernel.specs.state.States.{Handler}
use Rattle.lab_scenario_orders.specs.Callers.{first_seen, machine}
use Rattle.lab_scenario_orders.specs.Claims.{words_of}
use Rattle.lab_scenario_orders.specs.OrderTexts.{CanBeMade, IsUnmade, IsUnread, caller_name}
use Rattle.lab_scenario_orders.specs.Scenarios.{order_scenario}
use Rattle.lab_scenario_orders.specs.declared.callers.Callers.{Callers}
use Rattle.lab_scenario_orders.specs.declared.order_texts.OrderFault.{OrderFault}
use Rattle.lab_scenario_orders.specs.declared.order_texts.OrderFault.TheVariants.{Name, Step, Memory}
use Rattle.lab_streams.specs.Endings.{line_about}
use Rattle.lab_streams.specs.Outputs.{Output, prints, refuses}
use Rattle.lab_streams.specs.declared.words.Asked.{Asked}

-- how the text is called in messages
abbrev pub text_name : Asked → List ℕ
text_name asked = unwrap_or (option_map (λ file. file.now) asked.file) (codes "-")

-- an order as a scenario
unfoldable pub order_of : Callers → List ℕ → List ℕ
order_of callers order = order_scenario callers order

-- ---- the order that a text names

-- why it is none; for want of memory there are no words
abbrev pub order_fault_words : OrderFault → Option (List ℕ)
order_fault_words (Name number) = Some (codes "--order: word " ++ (decimal number ++ codes " is no caller"))
order_fault_words (Step number) = Some (codes "--order: step " ++ (decimal number ++ codes " can't be made"))
order_fault_words Memory = None

abbrev pub TellsFault : List ℕ → OrderFault → Output → Type 0
TellsFault name fault output = IsSomeAnd (order_fault_words fault) (λ words. output ≡ refuses 2 (line_about name words))

-- its scenario, if each step can be made
abbrev pub TellsMade : List Handler → List ℕ → Callers → List ℕ → Output → Type 0
TellsMade bank name callers order output =
    (CanBeMade (machine callers) (first_seen callers bank) order × (output ≡ prints (order_of callers order)))
    ⊎ ((fault : OrderFault) × IsUnmade (machine callers) (first_seen callers bank) order fault × TellsFault name fault output)

abbrev pub TellsOrder : List Handler → List ℕ → List ℕ → Callers → Output → Type 0
TellsOrder bank text name callers output =
    ((order : List ℕ) × (map (caller_name callers.callers.items) order ≡ map (λ word. Some word) (words_of text)) × TellsMade bank name callers order output)
    ⊎ ((fault : OrderFault) × IsUnread callers.callers.items (words_of text) fault × TellsFault name fault output)
