-- An order of atomic steps, reported as the calls of callers are: a line for each turn, with the word after it.
use Rattle.std.specs.Prelude.{ℕ, ◌+◌, List, [], ◌∷◌, ◌++◌, codes, decimal, Option, Some, None, if◌then◌else◌, is_some}
use Rattle.std.specs.Option.{option_map_or}
use Rattle.evl_base.specs.Call.{call_text}
use Rattle.evl_scenario.specs.Lines.{line_feed}
use Rattle.lab_step_orders.specs.Reports.{gate_word}
use Rattle.lab_step_orders.specs.Seen.{Seen, after, first_seen, next_turn}
use Rattle.lab_step_orders.specs.Told.{answer_text}
use Rattle.lab_step_orders.specs.Visits.{call_made}
use Rattle.lab_step_orders.specs.declared.crews.Crew.{Crew}
use Rattle.lab_step_orders.specs.declared.steps.CoreChange.{CoreChange}
use Rattle.lab_step_orders.specs.declared.steps.CoreChange.TheVariants.{Same, Takes, Ends, Gives}
use Rattle.lab_step_orders.specs.declared.steps.MutexStep.{MutexStep}
use Rattle.lab_step_orders.specs.declared.steps.MutexStep.TheVariants.{Try, Unlock, Win, Mark, Offer, Free, Accept, Forget}
use Rattle.lab_step_orders.specs.declared.steps.Then.{Then}
use Rattle.lab_step_orders.specs.declared.steps.Then.TheVariants.{Stands, Answers}
use Rattle.lab_step_orders.specs.declared.steps.Turn.{Turn}
use Rattle.lab_step_orders.specs.declared.steps.Visit.{Visit}
use Rattle.lab_step_orders.specs.declared.steps.WordStep.{WordStep}
use Rattle.lab_step_orders.specs.declared.steps.WordStep.TheVariants.{AtGate, AtMutex}
use Rattle.lab_step_texts.specs.Shown.{line_with, turn_shown}

-- ---- what is done

-- a wait ends by a finish
abbrev pub mutex_word : MutexStep → List ℕ
mutex_word Try = codes "try"
mutex_word Unlock = codes "unlock"
mutex_word Win = codes "claim"
mutex_word Mark = codes "claim"
mutex_word (Offer next more) = codes "offer"
mutex_word Free = codes "free"
mutex_word Accept = codes "finish"
mutex_word Forget = codes "finish"

abbrev pub made_text : WordStep → List ℕ
made_text (AtGate stax step) = gate_word step ++ (codes " stax=" ++ decimal stax.0)
made_text (AtMutex mutex step) = mutex_word step ++ (codes " mutex=" ++ decimal mutex.0)

-- with no step the call that the kernel gets; with none of these either a call is refused
abbrev pub called_text : Crew → Option Visit → List ℕ
called_text c None = codes "refused"
called_text c (Some visit) = call_text (call_made c visit)

abbrev pub step_text : Crew → Option WordStep → Option Visit → List ℕ
step_text c None visit = called_text c visit
step_text c (Some step) visit = made_text step

-- a turn may take the core; or give it, by a call of the kernel alone or by itself
abbrev pub doing_text : Crew → CoreChange → Turn → List ℕ
doing_text c Takes turn = codes "take"
doing_text c Gives turn = if is_some turn.visit then step_text c turn.step turn.visit else codes "give"
doing_text c Ends turn = step_text c turn.step turn.visit
doing_text c Same turn = step_text c turn.step turn.visit

-- ---- what is answered: after a turn that gives the core the call is over

abbrev pub open_text : CoreChange → List ℕ
open_text Gives = codes "done"
open_text Takes = codes "goes on"
open_text Ends = codes "goes on"
open_text Same = codes "goes on"

abbrev pub said_text : CoreChange → Then → List ℕ
said_text change (Stands place) = open_text change
said_text change (Answers answer) = answer_text answer

-- ---- lines

-- the number of a turn, whose it is, what is done, and what is answered
abbrev pub front_text : Crew → ℕ → ℕ → Turn → List ℕ
front_text c n k turn = decimal n ++ (codes " T" ++ (decimal k ++ (codes " " ++ (doing_text c turn.core turn ++ (codes " -> " ++ said_text turn.core turn.then)))))

-- and the word that it changes, as it is after it
abbrev pub turn_line : Crew → ℕ → ℕ → Turn → Seen → List ℕ
turn_line c n k turn behind = line_with (front_text c n k turn) (turn_shown behind.gates behind.mutexes behind.core turn.core turn.step) ++ line_feed

-- of the turns that these callers make from here, numbered from n, as far as each makes one
abbrev pub lines_text : Crew → ℕ → Seen → List ℕ → List ℕ
lines_text c n s [] = []
lines_text c n s (k ∷ order) =
    option_map_or (λ turn. turn_line c n k turn (after c s k turn) ++ lines_text c (n + 1) (after c s k turn) order) (next_turn c s k) []

-- rule: An order is a line for each turn: its number, its thread, the step or else the kernel's call, what is answered,
--   and the word that it changes, as it is afterwards.
--   also: Shown.turn_shown
--   clauses: write_order_lines
-- of an order, from the first moment on
abbrev pub order_lines : Crew → List ℕ → List ℕ
order_lines c order = lines_text c 1 (first_seen c) order
