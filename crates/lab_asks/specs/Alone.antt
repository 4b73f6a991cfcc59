-- The report of `lab orders --ask` on what is asked alone.
use Rattle.std.specs.Prelude.{◌≡◌, ◌⊎◌, ◌+◌, ◌-◌, ◌^◌, ◌==◌, ℕ, Bool, nat_lt, is_some, min, if◌then◌else◌, MatchBool, List, ◌++◌, codes, decimal, Option, Some, None}
use Rattle.evl_kernel.specs.state.States.{Handler}
use Rattle.lab_orders.specs.declared.levels.OrdersError.TheVariants.{Count}
use Rattle.lab_scenario_orders.specs.AskingAlone.{IsVerdict, asked_of}
use Rattle.lab_scenario_orders.specs.Outcomes.{CanNotTell}
use Rattle.lab_scenario_orders.specs.Verdicts.{asks_anything, state_against}
use Rattle.lab_scenario_orders.specs.declared.alone.Verdict.{Verdict}
use Rattle.lab_scenario_orders.specs.declared.asks.Ask.{Ask}
use Rattle.lab_scenario_orders.specs.declared.callers.Callers.{Callers}
use Rattle.lab_streams.specs.Endings.{line_about}
use Rattle.lab_streams.specs.Outputs.{Output, refuses}
use Rattle.lab_asks.specs.Verdicts.{holds_text, unanswered_text}

-- how many orders there are, and how many are against what is asked
abbrev pub order_word : ℕ → List ℕ
order_word count = if count == 1 then codes "order" else codes "orders"

abbrev pub orders_head : ℕ → List ℕ
orders_head count = codes "# " ++ (decimal count ++ (codes " " ++ (order_word count ++ codes ", ")))

abbrev pub against_head : Verdict → List ℕ
against_head found = decimal found.against ++ (codes " against what is asked, " ++ (decimal found.moments ++ codes " moments\n"))

abbrev pub head_text : Verdict → List ℕ
head_text found = orders_head found.orders ++ against_head found

-- how many outcomes there are isn't known then
abbrev pub uncounted_text : List ℕ → List ℕ
uncounted_text name = codes "lab: " ++ (name ++ codes ": not answered: --ask counts no outcomes\n")

-- nothing is against it: it holds in all orders, or it isn't known
abbrev pub quiet_text : List ℕ → Ask → Verdict → List ℕ
quiet_text name asks found = if found.whole then (if is_some asks.outcomes then uncounted_text name else holds_text name asks found.orders) else unanswered_text name found.steps

abbrev pub quiet_status : Ask → Verdict → ℕ
quiet_status asks found = if found.whole then (if is_some asks.outcomes then 5 else 0) else 5

abbrev pub against_words : ℕ → List ℕ
against_words against = if against == 1 then codes "order is" else codes "orders are"

abbrev pub against_line : List ℕ → ℕ → List ℕ
against_line name against = codes "lab: " ++ (name ++ (codes ": " ++ (decimal against ++ (codes " " ++ (against_words against ++ codes " against what is asked\n")))))

abbrev pub place_text : List ℕ → Ask → Verdict → Option ℕ → List ℕ
place_text name asks found None = quiet_text name asks found
place_text name asks found (Some place) = codes "lab: " ++ (name ++ (codes ": state " ++ (decimal (min (place + 1) (2 ^ 64 - 1)) ++ codes " is against what is asked\n")))

abbrev pub place_status : Ask → Verdict → Option ℕ → ℕ
place_status asks found None = quiet_status asks found
place_status asks found (Some place) = 1

abbrev pub alone_text : List ℕ → Ask → Verdict → List ℕ
alone_text name asks found =
    if nat_lt 0 found.against then against_line name found.against else place_text name asks found (state_against found.firsts.items found.whole 0 asks.watches.items)

abbrev pub alone_status : Ask → Verdict → ℕ
alone_status asks found = if nat_lt 0 found.against then 1 else place_status asks found (state_against found.firsts.items found.whole 0 asks.watches.items)

abbrev pub verdict_told : List ℕ → Ask → Verdict → Output
verdict_told name asks found = record { printed = head_text found; said = alone_text name asks found; status = alone_status asks found }

abbrev pub TellsVerdict : List Handler → ℕ → List ℕ → Callers → Ask → Output → Type 0
TellsVerdict bank most name callers asks output =
    ((found : Verdict) × IsVerdict callers bank asks most (asked_of asks callers) found × (output ≡ verdict_told name asks found))
    ⊎ (CanNotTell callers bank Count × (output ≡ refuses 2 (line_about name (codes "more orders than can be counted"))))

-- where anything is asked
abbrev pub TellsAlone : List Handler → ℕ → List ℕ → Callers → Ask → Output → Type 0
TellsAlone bank most name callers asks output =
    MatchBool (asks_anything asks) (TellsVerdict bank most name callers asks output) (output ≡ refuses 2 (line_about name (codes "nothing is asked")))
