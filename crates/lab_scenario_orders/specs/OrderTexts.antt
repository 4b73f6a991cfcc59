-- Orders that are written as texts.
use Rattle.std.specs.Prelude.{ℕ, ◌≡◌, ◌+◌, ◌<◌, ⊤, false, List, length, map, Option, Some, option_map, slice_get}
use Rattle.lab_orders.specs.Leading.{IsStuck}
use Rattle.lab_orders.specs.Machines.{Machine, led_along}
use Rattle.lab_scenario_orders.specs.Asks.{caller_text, is_caller_text}
use Rattle.lab_scenario_orders.specs.declared.callers.Caller.{Caller}
use Rattle.lab_scenario_orders.specs.declared.order_texts.OrderFault.{OrderFault}
use Rattle.lab_scenario_orders.specs.declared.order_texts.OrderFault.TheVariants.{Name, Step, Memory}

-- how the caller with this number is named
abbrev pub caller_name : List Caller → ℕ → Option (List ℕ)
caller_name callers n = option_map (λ caller. caller_text caller.who.0) (slice_get callers n)

-- the word at a place is no caller
pub record IsNobody (callers : List Caller) (words : List (List ℕ)) (place : ℕ) : Type 0 where
  pub word : List ℕ
  pub there : slice_get words place ≡ Some word
  pub unknown : is_caller_text callers word ≡ false

-- why words are no order: one of them is no caller; or memory ran out
abbrev pub IsUnread : List Caller → List (List ℕ) → OrderFault → Type 0
IsUnread callers words (Name number) = (place : ℕ) × (number ≡ place + 1) × IsNobody callers words place
IsUnread callers words (Step number) = ⊥
IsUnread callers words Memory = ⊤

-- rule: An order as a text is read as its callers, each reported; its scenario is printed exactly if each of its steps
--   can be made, else the first that cannot is reported.
--   also: OrderTexts.{IsUnmade, IsUnread}
--   clauses: lead; read_order; play_order
--   rows: orders_are_played_as_they_are_written
-- each step of an order can be made
abbrev pub CanBeMade : {S : Type 0} → Machine S → S → List ℕ → Type 0
CanBeMade {S} m s order = (at : S) × (led_along m s order ≡ Some at)

-- why one can't be played: the steps before one can be made, and that can't; or memory ran out
abbrev pub IsUnmade : {S : Type 0} → Machine S → S → List ℕ → OrderFault → Type 0
IsUnmade m s order (Name number) = ⊥
IsUnmade m s order (Step number) = (made : ℕ) × (number ≡ made + 1) × IsStuck m s order made
IsUnmade m s order Memory = ⊤
