-- Facts as they are written.
use Rattle.std.specs.Prelude.{ℕ, ◌≡◌, ◌^◌, false, true, List, codes, ℤ, pos, neg_ℤ, Option, Some, None, if◌then◌else◌, option_and_then, option_map}
use Rattle.std.specs.Option.{option_zip}
use Rattle.std.specs.Str.{bytes_eq}
use Rattle.evl_base.specs.declared.numbers.FlagId.{FlagId}
use Rattle.evl_base.specs.declared.numbers.LineNo.{LineNo}
use Rattle.evl_base.specs.declared.numbers.MutexId.{MutexId}
use Rattle.evl_base.specs.declared.numbers.SemId.{SemId}
use Rattle.evl_base.specs.declared.numbers.ThreadId.{ThreadId}
use Rattle.evl_base.specs.declared.numbers.XbufId.{XbufId}
use Rattle.evl_base.specs.declared.stage.Stage.TheVariants.{Oob, Inband}
use Rattle.evl_base.specs.declared.way.Way.{Way}
use Rattle.evl_base.specs.declared.way.Way.TheVariants.{In, Out}
use Rattle.evl_kernel.specs.declared.waits.Awaited.{Awaited}
use Rattle.evl_kernel.specs.declared.waits.Awaited.TheVariants as on
use Rattle.evl_scenario.specs.Values.{around_space, number_below, past_front, text_number}
use Rattle.lab_scenario_orders.specs.declared.facts.Claim.{Claim}
use Rattle.lab_scenario_orders.specs.declared.facts.Fact.{Fact}
use Rattle.lab_scenario_orders.specs.declared.facts.Fact.TheVariants as fact
use Rattle.lab_scenario_orders.specs.declared.facts.Relation.{Relation}
use Rattle.lab_scenario_orders.specs.declared.facts.Relation.TheVariants.{Equal, Below, Above}

-- two parts around the first blank, both read
abbrev pub both : {A B : Type 0} → (List ℕ → Option A) → (List ℕ → Option B) → List ℕ → Option (A × B)
both one other text = option_and_then (λ parts. option_zip (one parts.0) (other parts.1)) (around_space text)

-- what comes after a front part is read, if it is there; and else this
abbrev pub past_or : {A : Type 0} → Option (List ℕ) → (List ℕ → Option A) → Option A → Option A
past_or (Some rest) reads other = reads rest
past_or None reads other = other

-- ---- numbers and names

abbrev pub half_in : List ℕ → Option ℕ
half_in text = number_below (2 ^ 16) (text_number text)

abbrev pub word_in : List ℕ → Option ℕ
word_in text = number_below (2 ^ 32) (text_number text)

abbrev pub a_thread : ℕ → ThreadId
a_thread n = record { 0 = n }

abbrev pub a_sem : ℕ → SemId
a_sem n = record { 0 = n }

abbrev pub a_group : ℕ → FlagId
a_group n = record { 0 = n }

abbrev pub a_mutex : ℕ → MutexId
a_mutex n = record { 0 = n }

abbrev pub a_buffer : ℕ → XbufId
a_buffer n = record { 0 = n }

abbrev pub a_line : ℕ → LineNo
a_line n = record { 0 = n }

-- a thread, as it is written
abbrev pub thread_in : List ℕ → Option ThreadId
thread_in text = option_and_then (λ rest. option_map a_thread (half_in rest)) (past_front (codes "T") text)

-- a number that may be below 0
abbrev pub signed_in : Option (List ℕ) → List ℕ → Option ℤ
signed_in (Some rest) text = option_map (λ n. neg_ℤ (pos n)) (word_in rest)
signed_in None text = option_map (λ n. pos n) (word_in text)

abbrev pub value_in : List ℕ → Option ℤ
value_in text = signed_in (past_front (codes "-") text) text

abbrev pub relation_in : List ℕ → Option Relation
relation_in text =
    if bytes_eq text (codes "=") then Some Equal
    else if bytes_eq text (codes "<") then Some Below
    else if bytes_eq text (codes ">") then Some Above
    else None

abbrev pub comparison_in : List ℕ → Option (Relation × ℤ)
comparison_in text = both relation_in value_in text

abbrev pub way_in : List ℕ → Option Way
way_in text = if bytes_eq text (codes "way in") then Some In else if bytes_eq text (codes "way out") then Some Out else None

-- ---- what a thread waits for

abbrev pub transfer_in : List ℕ → Option (XbufId × Way)
transfer_in text = both (λ number. option_map a_buffer (half_in number)) way_in text

abbrev pub awaited_by : List ℕ → ℕ → Option Awaited
awaited_by kind n =
    if bytes_eq kind (codes "sem") then Some (on.Sem (a_sem n))
    else if bytes_eq kind (codes "flags") then Some (on.Flags (a_group n))
    else if bytes_eq kind (codes "mutex") then Some (on.Mutex (a_mutex n))
    else None

abbrev pub awaited_in : List ℕ → Option Awaited
awaited_in text = option_and_then (λ parts. option_and_then (awaited_by parts.0) (half_in parts.1)) (around_space text)

abbrev pub writing_in : List ℕ → Option Awaited
writing_in text = option_map (λ way. on.Writing way.0 way.1) (transfer_in text)

abbrev pub reading_in : List ℕ → Option Awaited
reading_in text = option_map (λ way. on.Reading way.0 way.1) (transfer_in text)

abbrev pub wait_in : List ℕ → Option Awaited
wait_in text =
    past_or (past_front (codes "for ") text) awaited_in
    (past_or (past_front (codes "to write xbuf ") text) writing_in (option_and_then reading_in (past_front (codes "to read xbuf ") text)))

-- ---- facts

abbrev pub long_thread_fact : ThreadId → List ℕ → Option Fact
long_thread_fact who text =
    past_or (past_front (codes "waits ") text) (λ rest. option_map (λ on. fact.WaitsFor who on) (wait_in rest))
    (option_map (λ than. fact.Rank who than.0 than.1) (option_and_then comparison_in (past_front (codes "rank ") text)))

abbrev pub thread_fact : ThreadId → List ℕ → Option Fact
thread_fact who text =
    if bytes_eq text (codes "picked") then Some (fact.Picked who)
    else if bytes_eq text (codes "ready") then Some (fact.Ready who)
    else if bytes_eq text (codes "waits") then Some (fact.Waits who)
    else if bytes_eq text (codes "oob") then Some (fact.On who Oob)
    else if bytes_eq text (codes "inband") then Some (fact.On who Inband)
    else long_thread_fact who text

abbrev pub mutex_fact : MutexId → List ℕ → Option Fact
mutex_fact mutex text =
    if bytes_eq text (codes "held") then Some (fact.Held mutex)
    else option_map (λ who. fact.Owns mutex who) (option_and_then thread_in (past_front (codes "owner ") text))

abbrev pub sem_fact : SemId → List ℕ → Option Fact
sem_fact sem text = option_map (λ than. fact.Count sem than.0 than.1) (option_and_then comparison_in (past_front (codes "count ") text))

abbrev pub flags_fact : FlagId → List ℕ → Option Fact
flags_fact flags text = option_map (λ than. fact.Bits flags than.0 than.1) (option_and_then comparison_in (past_front (codes "bits ") text))

abbrev pub line_fact : LineNo → List ℕ → Option Fact
line_fact line text =
    if bytes_eq text (codes "oob pending") then Some (fact.Pending line Oob)
    else if bytes_eq text (codes "inband pending") then Some (fact.Pending line Inband)
    else None

-- of the element or line with this number
abbrev pub numbered_fact : List ℕ → ℕ → List ℕ → Option Fact
numbered_fact kind n text =
    if bytes_eq kind (codes "mutex") then mutex_fact (a_mutex n) text
    else if bytes_eq kind (codes "sem") then sem_fact (a_sem n) text
    else if bytes_eq kind (codes "flags") then flags_fact (a_group n) text
    else if bytes_eq kind (codes "line") then line_fact (a_line n) text
    else None

abbrev pub element_fact : List ℕ → List ℕ → Option Fact
element_fact kind text = option_and_then (λ parts. option_and_then (λ n. numbered_fact kind n parts.1) (half_in parts.0)) (around_space text)

-- of a thread, where it is the first word, or else of an element or a line
abbrev pub fact_of : Option ThreadId → List ℕ → List ℕ → Option Fact
fact_of (Some who) first text = thread_fact who text
fact_of None first text = element_fact first text

abbrev pub fact_by : List ℕ → List ℕ → Option Fact
fact_by first text = fact_of (thread_in first) first text

abbrev pub fact_in : List ℕ → Option Fact
fact_in text =
    if bytes_eq text (codes "nobody picked") then Some fact.NobodyPicked
    else if bytes_eq text (codes "oob stalled") then Some (fact.Stalled Oob)
    else if bytes_eq text (codes "inband stalled") then Some (fact.Stalled Inband)
    else option_and_then (λ parts. fact_by parts.0 parts.1) (around_space text)

-- ---- what is claimed

abbrev pub claimed_by : Option (List ℕ) → List ℕ → Option Claim
claimed_by (Some rest) text = option_map (λ fact. record { fact = fact; is_so = false }) (fact_in rest)
claimed_by None text = option_map (λ fact. record { fact = fact; is_so = true }) (fact_in text)

-- a fact, or `not` before it
abbrev pub claim_in : List ℕ → Option Claim
claim_in text = claimed_by (past_front (codes "not ") text) text
