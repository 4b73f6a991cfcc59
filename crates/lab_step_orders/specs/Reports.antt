-- The report of all orders of atomic steps, as a text.
use Rattle.std.specs.Prelude.{ℕ, ◌+◌, ◌==◌, Bool, true, false, List, [], ◌∷◌, ◌++◌, codes, flat_map, if◌then◌else◌, is_some, length, Option, Some, None, slice_get, string_bytes}
use Rattle.std.specs.Fmt.{decimal}
use Rattle.std.specs.Option.{option_map_or}
use Rattle.std.specs.Str.Lines.{lines}
use Rattle.lab_orders.specs.declared.firsts.First.{First}
use Rattle.lab_orders.specs.declared.firsts.First.TheVariants.{Nowhere, After}
use Rattle.lab_orders.specs.declared.tallies.Tally.{Tally}
use Rattle.lab_scenario_orders.specs.Reports.{found_text, reach_text}
use Rattle.lab_scenario_orders.specs.WatchTexts.{when_key}
use Rattle.lab_step_orders.specs.Seen.{Seen, after, first_seen, next_turn}
use Rattle.lab_step_orders.specs.declared.crews.Crew.{Crew}
use Rattle.lab_step_orders.specs.declared.outcomes.StepOutcomes.{StepOutcomes}
use Rattle.lab_step_orders.specs.declared.steps.CoreChange.{CoreChange}
use Rattle.lab_step_orders.specs.declared.steps.CoreChange.TheVariants.{Same, Takes, Ends, Gives}
use Rattle.lab_step_orders.specs.declared.steps.GateStep.{GateStep}
use Rattle.lab_step_orders.specs.declared.steps.GateStep.TheVariants.{Look, Exchange, Leave, Claim, Unclaim}
use Rattle.lab_step_orders.specs.declared.steps.MutexStep.{MutexStep}
use Rattle.lab_step_orders.specs.declared.steps.MutexStep.TheVariants.{Try, Unlock}
use Rattle.lab_step_orders.specs.declared.steps.Turn.{Turn}
use Rattle.lab_step_orders.specs.declared.steps.WordStep.{WordStep}
use Rattle.lab_step_orders.specs.declared.steps.WordStep.TheVariants.{AtGate, AtMutex}
use Rattle.lab_step_orders.specs.declared.watches.StepWatch.{StepWatch}

-- a number with its word, of which there is one or of which there are others
abbrev pub number_text : ℕ → List ℕ → List ℕ
number_text n word = decimal n ++ (codes " " ++ (word ++ (if n == 1 then [] else codes "s")))

abbrev pub line_feed : List ℕ
line_feed = codes "\n"

-- a line as a comment
abbrev pub comment : List ℕ → List ℕ
comment line = codes "# " ++ (line ++ line_feed)

abbrev pub gate_word : GateStep → List ℕ
gate_word Look = codes "look"
gate_word (Exchange old) = codes "exchange"
gate_word Leave = codes "leave"
gate_word Claim = codes "claim"
gate_word Unclaim = codes "unclaim"

abbrev pub mutex_word : MutexStep → List ℕ
mutex_word Try = codes "try"
mutex_word Unlock = codes "unlock"
mutex_word _ = codes "visit"

-- which step a caller makes: with none a call is refused
abbrev pub step_word : Option WordStep → List ℕ
step_word None = codes "refused"
step_word (Some (AtGate stax step)) = gate_word step
step_word (Some (AtMutex mutex step)) = mutex_word step

-- a turn takes the core, or gives it, or visits the kernel, or makes a step alone
abbrev pub core_word : CoreChange → Turn → List ℕ
core_word Takes turn = codes "take"
core_word Gives turn = if is_some turn.visit then codes "visit" else codes "give"
core_word Ends turn = codes "visit"
core_word Same turn = if is_some turn.visit then codes "visit" else step_word turn.step

abbrev pub turn_word : Turn → List ℕ
turn_word turn = core_word turn.core turn

-- a turn of a caller, after what parts it from the one before
abbrev pub turn_text : List ℕ → ℕ → Turn → List ℕ
turn_text mark k turn = mark ++ (codes "T" ++ (decimal k ++ (codes " " ++ turn_word turn)))

-- what parts the turn with this number from the one before
abbrev pub mark_at : ℕ → List ℕ
mark_at n = if n == 0 then codes " " else codes ", "

-- the turns that these callers make from here, numbered from n, as far as each makes one
abbrev pub turns_text : Crew → ℕ → Seen → List ℕ → List ℕ
turns_text c n s [] = []
turns_text c n s (k ∷ order) = option_map_or (λ turn. turn_text (mark_at n) k turn ++ turns_text c (n + 1) (after c s k turn) order) (next_turn c s k) []

-- an order, from the first moment on
abbrev pub order_text : Crew → List ℕ → List ℕ
order_text c order = codes "# order:" ++ (turns_text c 0 (first_seen c) order ++ line_feed)

-- how many orders lead to an outcome, what is reported of it, and the first of them
abbrev pub outcome_text : Crew → ℕ → Tally → List ℕ
outcome_text c n outcome =
    codes "# outcome " ++ (decimal n ++ (codes ": " ++ (number_text outcome.count (codes "order") ++ (line_feed
    ++ (flat_map comment (lines (string_bytes outcome.told)) ++ order_text c outcome.order.items)))))

-- outcomes, numbered from n
abbrev pub outcomes_text : Crew → ℕ → List Tally → List ℕ
outcomes_text c n [] = []
outcomes_text c n (outcome ∷ rest) = outcome_text c n outcome ++ outcomes_text c (n + 1) rest

-- how many orders and outcomes there are
abbrev pub orders_text : StepOutcomes → List ℕ
orders_text found = codes "# " ++ (number_text found.count (codes "order") ++ (codes ", " ++ number_text (length found.all.items) (codes "outcome")))

-- and how many moments were gone through, and whether longer orders were cut off
abbrev pub counts_text : StepOutcomes → List ℕ
counts_text found =
    orders_text found ++ (codes ", " ++ (number_text found.moments (codes "moment") ++ (line_feed
    ++ (if found.whole then [] else codes "# cut off: there are longer orders\n"))))

-- what came of a question about moments, with the first order to one as it looks for
abbrev pub watch_line : ℕ → StepWatch → Bool → Bool → List ℕ
watch_line n watch found whole =
    codes "# state " ++ (decimal n ++ (codes ": " ++ (when_key watch.when ++ (codes ": " ++ (string_bytes watch.text ++ (codes ": " ++ (found_text watch.when found ++ reach_text found whole)))))))

abbrev pub state_text : Crew → Bool → ℕ → StepWatch → First → List ℕ
state_text c whole n watch Nowhere = watch_line n watch false whole
state_text c whole n watch (After order) = watch_line n watch true whole ++ order_text c order.items

abbrev pub state_at : Crew → Bool → ℕ → StepWatch → List First → List ℕ
state_at c whole place watch firsts = option_map_or (state_text c whole (place + 1) watch) (slice_get firsts place) []

-- of the questions from this place on
abbrev pub states_text : Crew → Bool → ℕ → List StepWatch → List First → List ℕ
states_text c whole place [] firsts = []
states_text c whole place (watch ∷ rest) firsts = state_at c whole place watch firsts ++ states_text c whole (place + 1) rest firsts

-- rule: The report has the counts and, of each outcome, what is reported and the first of its orders: who makes each
--   turn, and by which step.
--   also: Reports.{outcome_text, turns_text}
--   clauses: write_step_report
--   rows: a_report_tells_each_step
abbrev pub report_text : Crew → StepOutcomes → List ℕ
report_text c found = counts_text found ++ (states_text c found.whole 0 c.watches.items found.firsts.items ++ outcomes_text c 1 found.all.items)
