-- The lines that are reported of callers and of the words at the end of an order.
use Rattle.std.specs.Prelude.{ℕ, zero, suc, ◌-◌, ◌==◌, Bool, true, false, List, [], ◌++◌, Option, Some, None, codes, if◌then◌else◌, length, nat_lt, slice_get, slice_index, slice_index_or}
use Rattle.std.specs.Fmt.{decimal, signed_decimal}
use Rattle.std.specs.Option.{option_map_or}
use Rattle.evl_base.specs.Refusal.{name_of}
use Rattle.evl_base.specs.Stage.{stage_text}
use Rattle.evl_kernel.specs.state.States.{State}
use Rattle.evl_words.specs.GateWord.{count_in, stage_in, mark_in}
use Rattle.evl_words.specs.MutexBits.{number_in}
use Rattle.lab_step_orders.specs.Visits.{goes_on}
use Rattle.lab_step_orders.specs.Words.{Shared}
use Rattle.lab_step_orders.specs.declared.calls.Answer.{Answer}
use Rattle.lab_step_orders.specs.declared.calls.Answer.TheVariants.{Passed, Done, Wanted, Refused, Begun, TimedOut, Count, Bits, Number, Chosen}
use Rattle.lab_step_orders.specs.declared.crews.Crew.{Crew}
use Rattle.lab_step_orders.specs.declared.steps.Waiting.{Waiting}
use Rattle.lab_step_orders.specs.declared.steps.Waiting.TheVariants.{Mutex, Element}

abbrev pub answer_text : Answer → List ℕ
answer_text Passed = codes "pass"
answer_text Done = codes "done"
answer_text Wanted = codes "done, others want in"
answer_text (Refused refusal) = name_of refusal
answer_text Begun = codes "begun"
answer_text TimedOut = codes "timed out"
answer_text (Count count) = codes "count " ++ signed_decimal count
answer_text (Bits bits) = codes "bits " ++ decimal bits
answer_text (Number number) = codes "number " ++ decimal number
answer_text (Chosen None) = codes "thread none"
answer_text (Chosen (Some thread)) = codes "thread " ++ decimal thread.0

-- what was answered so far, with one answer more
abbrev pub answer_line : List ℕ → Answer → List ℕ
answer_line told answer = (told ++ codes " -> ") ++ answer_text answer

-- the lines of each number below n
unfoldable pub lines_below : (ℕ → List ℕ) → ℕ → List ℕ
lines_below line zero = []
lines_below line (suc n) = lines_below line n ++ line n

-- a caller has calls
abbrev pub has_calls : Crew → ℕ → Bool
has_calls c k = option_map_or (λ caller. nat_lt 0 (length caller.calls.items)) (slice_get c.callers.items k) false

-- a caller that has made so many has calls left: it is stuck where nobody can make a turn
abbrev pub has_left : Crew → ℕ → ℕ → Bool
has_left c k made = option_map_or (λ caller. nat_lt made (length caller.calls.items)) (slice_get c.callers.items k) false

abbrev pub waits_text : Option Waiting → List ℕ
waits_text (Some (Mutex mutex)) = codes " waits for mutex " ++ decimal mutex.0
waits_text (Some Element) = codes " waits"
waits_text None = codes " waits"

abbrev pub stuck_line : Crew → List ℕ → List (Option Waiting) → ℕ → List ℕ
stuck_line c made waits k = if has_left c k (slice_index made k) then codes "stuck: T" ++ (decimal k ++ (waits_text (slice_index_or waits k None) ++ codes "\n")) else []

-- a caller with no call left, whose wait goes on
abbrev pub resting_line : Crew → List ℕ → List (Option Waiting) → State → ℕ → List ℕ
resting_line c made waits s k =
    if has_left c k (slice_index made k) then []
    else if goes_on s k then codes "T" ++ (decimal k ++ (waits_text (slice_index_or waits k None) ++ codes "\n"))
    else []

-- what such a caller was answered
abbrev pub caller_line : Crew → List (List ℕ) → ℕ → List ℕ
caller_line c answers k = if has_calls c k then codes "T" ++ (decimal k ++ (slice_index_or answers k [] ++ codes "\n")) else []

abbrev pub mark_text : Bool → List ℕ
mark_text true = codes ", claimed\n"
mark_text false = codes "\n"

-- all that a stax's word says; the stage is that of the last ones in it where nobody is
abbrev pub stax_text : ℕ → ℕ → List ℕ
stax_text i word = codes "stax " ++ (decimal i ++ (codes ": " ++ (stage_text (stage_in word) ++ (codes ", held by " ++ (decimal (count_in word) ++ mark_text (mark_in word))))))

abbrev pub owner_text : ℕ → List ℕ
owner_text number = if number == 0 then codes "free" else codes "T" ++ decimal (number - 1)

abbrev pub mutex_text : ℕ → ℕ → List ℕ
mutex_text i word = codes "mutex " ++ (decimal i ++ (codes ": " ++ (owner_text (number_in word) ++ mark_text (mark_in word))))

abbrev pub stax_line : List Shared → ℕ → List ℕ
stax_line gates i = option_map_or (λ g. stax_text i g.word) (slice_get gates i) []

abbrev pub mutex_line : List Shared → ℕ → List ℕ
mutex_line mutexes i = option_map_or (λ m. mutex_text i m.word) (slice_get mutexes i) []
