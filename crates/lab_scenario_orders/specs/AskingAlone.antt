-- Callers of some of whom the answers are forgotten.
use Rattle.std.specs.Prelude.{ℕ, ◌≡◌, ◌+◌, Bool, true, if◌then◌else◌, List, [], ◌∷◌, length, Option, option_map, slice_get, unwrap_or}
use Rattle.std.specs.Prelude.{◌<◌, ◌⊎◌, false, sum_by}
use Rattle.std.specs.List.{list_any}
use Rattle.std.specs.Str.{bytes_eq}
use Rattle.std.specs.Prelude.{cond, map, string_bytes}
use Rattle.evl_kernel.specs.state.States.{Handler}
use Rattle.lab_orders.specs.Firsts.{AreFirsts}
use Rattle.lab_orders.specs.Fronts.{IsGone}
use Rattle.lab_orders.specs.Laws.{IsSeenOf}
use Rattle.lab_orders.specs.Machines.{Machine, orders, runs}
use Rattle.lab_orders.specs.Weights.{total}
use Rattle.lab_scenario_orders.specs.Asks.{caller_text, is_against}
use Rattle.lab_scenario_orders.specs.Moments.{seen_at}
use Rattle.lab_scenario_orders.specs.Told.{told_text}
use Rattle.lab_scenario_orders.specs.Watches.{is_noted_at}
use Rattle.lab_scenario_orders.specs.declared.alone.Verdict.{Verdict}
use Rattle.lab_scenario_orders.specs.declared.asks.Ask.{Ask}
use Rattle.lab_scenario_orders.specs.declared.asks.Never.{Never}
use Rattle.lab_scenario_orders.specs.declared.callers.Caller.{Caller}
use Rattle.lab_scenario_orders.specs.Callers.{Seen, first_seen, go, machine}
use Rattle.lab_scenario_orders.specs.declared.callers.Callers.{Callers}

-- of the answers of the caller with this number all is kept, or nothing
abbrev pub kept_one : List Bool → ℕ → List ℕ → List ℕ
kept_one told n answers = if unwrap_or (slice_get told n) true then answers else []

-- and of callers, of whom the first has this number
abbrev pub kept_from : List Bool → ℕ → List (List ℕ) → List (List ℕ)
kept_from told n [] = []
kept_from told n (answers ∷ rest) = kept_one told n answers ∷ kept_from told (n + 1) rest

abbrev pub forget : List Bool → Seen → Seen
forget told seen = record { made = seen.made; answers = kept_from told 0 seen.answers; state = seen.state }

-- the same callers, where each step's answer may be forgotten
abbrev pub asked_go : Callers → List Bool → Seen → ℕ → Option Seen
asked_go c told seen n = option_map (forget told) (go c seen n)

abbrev pub asked_machine : Callers → List Bool → Machine Seen
asked_machine c told = record { callers = length c.callers.items; go = asked_go c told }

-- It is what is seen of the callers with all their answers, so each number of its states is counted as it is there.
abbrev pub ForgetsAnswers : Type 0
ForgetsAnswers = (c : Callers) (told : List Bool) → IsSeenOf (machine c) (asked_machine c told) (forget told)

-- the callers of whom some answer is asked for
abbrev pub is_asked_of : List Never → Caller → Bool
is_asked_of never caller = list_any (λ one. bytes_eq (caller_text caller.who.0) (string_bytes one.who)) never

abbrev pub asked_of : Ask → Callers → List Bool
asked_of ask c = map (is_asked_of ask.never.items) c.callers.items

-- an end is against what is asked, by what is reported of it without the answers that are forgotten
abbrev pub one_against : Callers → Ask → List Bool → Seen → ℕ
one_against c ask told seen = cond (is_against ask (told_text c (forget told seen))) 1 0

-- The result of what is asked alone: how many orders there are, and how many of them end against it.
pub record IsVerdict (c : Callers) (bank : List Handler) (ask : Ask) (most : ℕ) (told : List Bool) (found : Verdict) : Type 0 where
  pub count : found.orders ≡ length (orders (machine c) (first_seen c bank) found.steps)
  pub against : found.against ≡ total (one_against c ask told) (orders (machine c) (first_seen c bank) found.steps)
  -- of what is asked of moments, the first order that leads to one where it is noted, or that none does
  pub firsts : AreFirsts (asked_machine c told) (first_seen c bank) (λ n seen. is_noted_at ask.watches.items n seen.state) found.steps 0 found.firsts.items
  pub watched : length found.firsts.items ≡ length ask.watches.items
  -- no number of steps that leads to more than `most` moments was gone on from, and so many moments were gone through
  pub gone : IsGone (asked_machine c told) (seen_at c bank) (first_seen c bank) most found.steps found.moments
  -- where nothing was cut off, no run has as many steps; else it went further than all steps together, or more than `most` have
  pub whole : found.whole ≡ true → runs (machine c) (first_seen c bank) found.steps ≡ []
  pub cut : found.whole ≡ false → (length c.steps.items < found.steps) ⊎ (most < length (runs (machine c) (first_seen c bank) found.steps))
  pub more : found.whole ≡ false → 0 < length (runs (machine c) (first_seen c bank) found.steps)
