-- The answers of callers at each of their steps, over all orders.
use Rattle.std.specs.Prelude.{ℕ, zero, suc, ◌+◌, ◌-◌, ◌==◌, Bool, false, ◌&&◌, ◌||◌, not, nat_lt, if◌then◌else◌, List, [], ◌∷◌, ◌++◌, codes, drop, filter, filter_map, is_some, length, map, string_bytes, sum_by, take, Option, Some, None, option_and_then, unwrap_or}
use Rattle.std.specs.Fmt.{decimal}
use Rattle.std.specs.Cmp.Lexicographic.{pointwise}
use Rattle.std.specs.Option.{option_map_or}
use Rattle.std.specs.Str.{bytes_eq}
use Rattle.lab_orders.specs.declared.tallies.Tally.{Tally}

-- ---- in one outcome

-- what comes after the first text in the second, if that begins with it
abbrev pub text_behind : List ℕ → List ℕ → Option (List ℕ)
text_behind front text = if pointwise (λ a b. a == b) (take (length front) text) front then Some (drop (length front) text) else None

abbrev pub begins : List ℕ → List ℕ → Bool
begins front text = is_some (text_behind front text)

abbrev pub from_arrow : List ℕ → Option (List ℕ)
from_arrow rest = if begins (codes " -> ") rest then Some rest else None

-- a caller's line of what is reported, from the arrow before its first answer on: it begins with the caller's name
abbrev pub row_here : List ℕ → List ℕ → Option (List ℕ)
row_here who text = option_and_then from_arrow (text_behind who text)

abbrev pub later_row : List ℕ → List ℕ → List ℕ
later_row who [] = []
later_row who (b ∷ bs) = if b == 10 then unwrap_or (row_here who bs) (later_row who bs) else later_row who bs

-- the first such line, or nothing
abbrev pub row : List ℕ → List ℕ → List ℕ
row who told = unwrap_or (row_here who told) (later_row who told)

-- after an answer comes an arrow, or the end of the line
abbrev pub is_end : List ℕ → Bool
is_end text = begins (codes " -> ") text || begins (codes "\n") text

abbrev pub answer_of : List ℕ → List ℕ
answer_of [] = []
answer_of (b ∷ bs) = if is_end (b ∷ bs) then [] else b ∷ answer_of bs

-- rule: `--answers` prints, after the report's counts, for each caller and each of its steps in order the answers that
--   came there, as they first come in the outcomes, each with the sum of the orders of the outcomes whose line of that
--   caller has it there; then, where there is any, the sum of those without the step; so it does of atomic steps, by
--   their calls.
--   also: Answers.{answers_there, orders_with, orders_without, step_line}; Outcomes.answers_told;
--   StepOrders.{answers_of, callers_answers}
--   clauses: put_answers; tell_answers
--   rows: a_step_that_isnt_made_is_told_so; each_answer_of_a_step_has_its_orders
-- the answer at a step, from 0: what comes after so many arrows and one more
abbrev pub answer_at : ℕ → List ℕ → Option (List ℕ)
answer_at step [] = None
answer_at step (b ∷ bs) =
    if b == 10 then None
    else if begins (codes " -> ") (b ∷ bs) then (if step == 0 then Some (answer_of (drop 4 (b ∷ bs))) else answer_at (step - 1) bs)
    else answer_at step bs

-- ---- over all orders

-- what is reported of a caller in each outcome, and how many orders end so
abbrev pub Row : Type 0
Row = List ℕ × ℕ

abbrev pub rows_of : List ℕ → List Tally → List Row
rows_of who outcomes = map (λ outcome. (row who (string_bytes outcome.told), outcome.count)) outcomes

-- each text once, where it first is
abbrev pub each_once : List (List ℕ) → List (List ℕ)
each_once [] = []
each_once (text ∷ rest) = text ∷ filter (λ other. not (bytes_eq text other)) (each_once rest)

-- the answers that came at a step
abbrev pub answers_there : ℕ → List Row → List (List ℕ)
answers_there step rows = each_once (filter_map (λ row. answer_at step row.0) rows)

-- just this is answered
abbrev pub is_answered : ℕ → List ℕ → List ℕ → Bool
is_answered step answer told = option_map_or (bytes_eq answer) (answer_at step told) false

-- in how many orders an answer came, and in how many the step isn't made
abbrev pub orders_with : ℕ → List ℕ → List Row → ℕ
orders_with step answer rows = sum_by (λ row. if is_answered step answer row.0 then row.1 else 0) rows

abbrev pub orders_without : ℕ → List Row → ℕ
orders_without step rows = sum_by (λ row. if is_some (answer_at step row.0) then 0 else row.1) rows

abbrev pub all_orders : List Row → ℕ
all_orders rows = sum_by (λ row. row.1) rows

-- ---- what is printed

-- a number with its word
abbrev pub number_text : ℕ → List ℕ → List ℕ
number_text n word = decimal n ++ (codes " " ++ (word ++ (if n == 1 then [] else codes "s")))

-- before all but the first of some parts
abbrev pub comma : ℕ → List ℕ
comma place = if place == 0 then [] else codes ", "

-- the answers from a place on, each with its orders
abbrev pub answer_text : ℕ → List Row → ℕ → List ℕ → List ℕ
answer_text step rows place answer = comma place ++ (answer ++ (codes " in " ++ number_text (orders_with step answer rows) (codes "order")))

abbrev pub answers_from : ℕ → List Row → ℕ → List (List ℕ) → List ℕ
answers_from step rows place [] = []
answers_from step rows place (answer ∷ rest) = answer_text step rows place answer ++ answers_from step rows (place + 1) rest

-- after so many answers, in how many orders the step isn't made, where there is one or none has an answer
abbrev pub unmade_text : ℕ → ℕ → List ℕ
unmade_text place count = if (count == 0 && nat_lt 0 place) then [] else comma place ++ (codes "not made in " ++ number_text count (codes "order"))

abbrev pub told_text : ℕ → List Row → List (List ℕ) → List ℕ
told_text step rows answers = answers_from step rows 0 answers ++ unmade_text (length answers) (orders_without step rows)

-- a caller's step, from 1
abbrev pub begin_text : List ℕ → ℕ → List ℕ
begin_text who step = codes "# " ++ (who ++ (codes " step " ++ (decimal (step + 1) ++ codes ": ")))

abbrev pub step_line : List ℕ → List Row → ℕ → List ℕ
step_line who rows step = begin_text who step ++ (told_text step rows (answers_there step rows) ++ codes "\n")

-- so many of its steps
abbrev pub step_lines : List ℕ → List Row → ℕ → List ℕ
step_lines who rows zero = []
step_lines who rows (suc step) = step_lines who rows step ++ step_line who rows step

abbrev pub caller_name : ℕ → List ℕ
caller_name who = codes "T" ++ decimal who

-- of the caller of a thread that has so many steps
abbrev pub answers_text : List Tally → ℕ → ℕ → List ℕ
answers_text outcomes who steps = step_lines (caller_name who) (rows_of (caller_name who) outcomes) steps

-- how many orders, outcomes and moments there are, and whether longer orders were cut off
abbrev pub orders_text : ℕ → ℕ → List ℕ
orders_text orders outcomes = codes "# " ++ (number_text orders (codes "order") ++ (codes ", " ++ number_text outcomes (codes "outcome")))

abbrev pub cut_text : Bool → List ℕ
cut_text whole = if whole then [] else codes "# cut off: there are longer orders\n"

abbrev pub head_text : ℕ → ℕ → ℕ → Bool → List ℕ
head_text orders outcomes moments whole =
    orders_text orders outcomes ++ (codes ", " ++ (number_text moments (codes "moment") ++ (codes "\n" ++ cut_text whole)))
