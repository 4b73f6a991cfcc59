-- Facts of words as they are written.
use Rattle.std.specs.Prelude.{ℕ, false, true, List, codes, Option, Some, None, if◌then◌else◌, option_and_then, option_map}
use Rattle.std.specs.Str.{bytes_eq}
use Rattle.evl_base.specs.declared.numbers.MutexId.{MutexId}
use Rattle.evl_base.specs.declared.numbers.StaxId.{StaxId}
use Rattle.evl_base.specs.declared.numbers.ThreadId.{ThreadId}
use Rattle.evl_base.specs.declared.stage.Stage.TheVariants.{Oob, Inband}
use Rattle.evl_scenario.specs.Values.{around_space, past_front}
use Rattle.lab_scenario_orders.specs.FactTexts.{a_mutex, half_in, past_or, thread_in}
use Rattle.lab_step_orders.specs.declared.watches.StepClaim.{StepClaim}
use Rattle.lab_step_orders.specs.declared.watches.StepFact.{StepFact}
use Rattle.lab_step_orders.specs.declared.watches.StepFact.TheVariants.{HoldsStax, HeldOn, StaxClaimed, HoldsMutex, MutexFree, MutexClaimed, HasCore, CoreFree}

abbrev pub a_stax : ℕ → StaxId
a_stax n = record { 0 = n }

abbrev pub stax_said : StaxId → List ℕ → Option StepFact
stax_said stax text =
    if bytes_eq text (codes "held inband") then Some (HeldOn stax Inband)
    else if bytes_eq text (codes "held oob") then Some (HeldOn stax Oob)
    else if bytes_eq text (codes "claimed") then Some (StaxClaimed stax)
    else None

abbrev pub mutex_said : MutexId → List ℕ → Option StepFact
mutex_said mutex text =
    if bytes_eq text (codes "free") then Some (MutexFree mutex)
    else if bytes_eq text (codes "claimed") then Some (MutexClaimed mutex)
    else None

abbrev pub thread_said : ThreadId → List ℕ → Option StepFact
thread_said who text =
    if bytes_eq text (codes "has the core") then Some (HasCore who)
    else past_or (past_front (codes "holds stax ") text) (λ rest. option_map (λ n. HoldsStax who (a_stax n)) (half_in rest))
    (option_map (λ n. HoldsMutex who (a_mutex n)) (option_and_then half_in (past_front (codes "holds mutex ") text)))

-- of the stax or mutex with the number before the first blank, or of the thread with this name
abbrev pub stax_fact : List ℕ → Option StepFact
stax_fact text = option_and_then (λ parts. option_and_then (λ n. stax_said (a_stax n) parts.1) (half_in parts.0)) (around_space text)

abbrev pub mutex_fact : List ℕ → Option StepFact
mutex_fact text = option_and_then (λ parts. option_and_then (λ n. mutex_said (a_mutex n) parts.1) (half_in parts.0)) (around_space text)

abbrev pub thread_fact : List ℕ → Option StepFact
thread_fact text = option_and_then (λ parts. option_and_then (λ who. thread_said who parts.1) (thread_in parts.0)) (around_space text)

abbrev pub fact_in : List ℕ → Option StepFact
fact_in text =
    if bytes_eq text (codes "nobody has the core") then Some CoreFree
    else past_or (past_front (codes "stax ") text) stax_fact (past_or (past_front (codes "mutex ") text) mutex_fact (thread_fact text))

-- a fact, or `not` before it
abbrev pub claimed_by : Option (List ℕ) → List ℕ → Option StepClaim
claimed_by (Some rest) text = option_map (λ fact. record { fact = fact; is_so = false }) (fact_in rest)
claimed_by None text = option_map (λ fact. record { fact = fact; is_so = true }) (fact_in text)

abbrev pub claim_in : List ℕ → Option StepClaim
claim_in text = claimed_by (past_front (codes "not ") text) text
