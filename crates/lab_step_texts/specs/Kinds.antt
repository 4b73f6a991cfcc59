-- Which texts are gone through step by step.
use Rattle.std.specs.Prelude.{ℕ, Bool, true, false, ◌&&◌, List}
use Rattle.std.specs.Str.{is_utf8}
use Rattle.lab_kinds.specs.Kinds.{kind_of}
use Rattle.lab_kinds.specs.declared.kinds.TextKind.{TextKind}
use Rattle.lab_kinds.specs.declared.kinds.TextKind.TheVariants.{Scenario, Orders, Callers, Bank}
use Rattle.lab_scenario_orders.specs.Splits.{scenario_part}
use Rattle.lab_step_texts.specs.Extras.{plain_part}

abbrev pub is_of_callers : TextKind → Bool
is_of_callers Callers = true
is_of_callers Scenario = false
is_of_callers Orders = false
is_of_callers Bank = false

-- a text of callers, but for what is set up and what is asked
unfoldable pub asks_steps : List ℕ → Bool
asks_steps text = is_utf8 text && is_of_callers (kind_of (scenario_part (plain_part text)))
