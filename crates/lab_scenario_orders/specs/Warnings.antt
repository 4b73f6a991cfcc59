-- All that looks odd in all orders.
use Rattle.std.specs.Prelude.{ℕ, Bool, true, false, ◌&&◌, ◌==◌, ◌+◌, ◌-◌, List, [], ◌∷◌, ◌++◌, codes, decimal, find, flat_map, if◌then◌else◌, length, string_bytes, Option}
use Rattle.std.specs.List.{list_all}
use Rattle.std.specs.Option.{option_map_or}
use Rattle.evl_base.specs.Refusal.{name_of}
use Rattle.evl_base.specs.declared.call.Call.{Call}
use Rattle.evl_base.specs.declared.call.Call.TheVariants.{BeginGet, BeginTake, BeginWrite, BeginRead, Claim, Finish}
use Rattle.evl_base.specs.declared.refusal.Refusal.{Refusal}
use Rattle.evl_scenario.specs.declared.steps.Step.{Step}
use Rattle.lab_orders.specs.declared.tallies.Tally.{Tally}
use Rattle.lab_scenario_orders.specs.Answers.{kernel_refusals}
use Rattle.lab_scenario_orders.specs.Asks.{begins, caller_text, some_line, stands_here, text_behind}
use Rattle.lab_scenario_orders.specs.Told.{lines_below}
use Rattle.lab_scenario_orders.specs.declared.callers.Caller.{Caller}
use Rattle.lab_scenario_orders.specs.declared.callers.Callers.{Callers}
use Rattle.lab_scenario_orders.specs.declared.outcomes.Outcomes.{Outcomes}

-- ---- steps that are refused alike

-- the answer with this place in the rest of a line, from 0, is just this one
abbrev pub is_answer_at : List ℕ → ℕ → List ℕ → Bool
is_answer_at answer n [] = false
is_answer_at answer n (b ∷ bs) =
    if b == 10 then false
    else if begins (codes " -> ") (b ∷ bs) then (if n == 0 then stands_here answer (b ∷ bs) else is_answer_at answer (n - 1) bs)
    else is_answer_at answer n bs

-- the line is this thread's, and has this answer there
abbrev pub has_answer : List ℕ → List ℕ → ℕ → List ℕ → Bool
has_answer who answer n text = option_map_or (λ rest. begins (codes " -> ") rest && is_answer_at answer n rest) (text_behind who text) false

-- in each of these outcomes
abbrev pub is_always : List Tally → List ℕ → List ℕ → ℕ → Bool
is_always outcomes who answer n = list_all (λ outcome. some_line (has_answer who answer n) (string_bytes outcome.told)) outcomes

-- rule: A report warns of each step that has one refusal in all orders, where nothing was cut off, and of each caller
--   that begins a wait after its last `finish`.
--   also: Warnings.waits_after
--   clauses: write_report
-- the refusal that a thread is answered there in each
abbrev pub refused_alike : List Tally → List ℕ → ℕ → Option Refusal
refused_alike outcomes who n = find (λ refusal. is_always outcomes who (name_of refusal) n) kernel_refusals

abbrev pub refused_line : List Tally → List ℕ → ℕ → List ℕ
refused_line outcomes who n =
    option_map_or (λ refusal. codes "# warning: " ++ (who ++ (codes "'s step " ++ (decimal (n + 1) ++ (codes " is answered " ++ (name_of refusal ++ codes " in every order\n"))))))
    (refused_alike outcomes who n) []

-- of each step of a caller, and of each caller
abbrev pub refused_lines : List Tally → Caller → List ℕ
refused_lines outcomes caller = lines_below (refused_line outcomes (caller_text caller.who.0)) (length caller.places.items)

abbrev pub refused_text : List Tally → List Caller → List ℕ
refused_text outcomes callers = flat_map (refused_lines outcomes) callers

-- ---- waits without their end

-- a thread has a wait to end after a call of its own, where it had one before or not
abbrev pub waits_by : Bool → Call → Bool
waits_by was (BeginGet sem until) = true
waits_by was (BeginTake flags kind until) = true
waits_by was (BeginWrite xbuf way bytes until) = true
waits_by was (BeginRead xbuf way len until) = true
waits_by was (Claim mutex owner until) = true
waits_by was (Finish keep) = false
waits_by was _ = was

-- and after these steps
abbrev pub waits_after : Bool → ℕ → List Step → Bool
waits_after was who [] = was
waits_after was who (step ∷ steps) = waits_after (if step.who.0 == who then waits_by was step.call else was) who steps

abbrev pub unended_line : Callers → Caller → List ℕ
unended_line c caller =
    if waits_after (waits_after false caller.who.0 c.setup.items) caller.who.0 c.steps.items
    then codes "# warning: T" ++ (decimal caller.who.0 ++ codes " has no finish after its last wait\n")
    else []

abbrev pub unended_text : Callers → List Caller → List ℕ
unended_text c callers = flat_map (unended_line c) callers

-- ---- all

abbrev pub warnings_text : Callers → Outcomes → List ℕ
warnings_text c outcomes = (if outcomes.whole then refused_text outcomes.all.items c.callers.items else []) ++ unended_text c c.callers.items
