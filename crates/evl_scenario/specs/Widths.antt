-- Which numbers the fields of a step and of a board can hold, by their types.
use Rattle.std.specs.Prelude.{ℕ, ◌<◌, ◌≤◌, ◌^◌, List, [], ◌∷◌, length, slice_index, Option, Some, None}
use Rattle.hex.specs.Hex.{IsBytes}
use Rattle.evl_base.specs.Limits.{flags_limit, sem_limit}
use Rattle.evl_base.specs.declared.board.Board.{Board}
use Rattle.evl_base.specs.declared.call.Call.{Call}
use Rattle.evl_base.specs.declared.policy.Policy.{Policy}
use Rattle.evl_base.specs.declared.policy.Policy.TheVariants.{Fifo, Rr, Quota, Weak}
use Rattle.evl_base.specs.declared.take.Take.{Take}
use Rattle.evl_base.specs.declared.take.Take.TheVariants.{Any, Of, Exact}
use Rattle.evl_base.specs.Calls.{told_in}
use Rattle.evl_base.specs.Fields.{Told, a_byte, a_half, a_word, a_number, a_stage, a_policy, a_take, a_way, a_bytes, a_until, a_truth, Keyed}
use Rattle.evl_scenario.specs.declared.steps.Step.{Step}

abbrev pub PolicyFits : Policy → Type 0
PolicyFits (Fifo prio) = prio < 2 ^ 8
PolicyFits (Rr prio slice) = (prio < 2 ^ 8) × (slice < 2 ^ 64)
PolicyFits (Quota group prio) = (group < 2 ^ 16) × (prio < 2 ^ 8)
PolicyFits (Weak prio) = prio < 2 ^ 8

abbrev pub TakeFits : Take → Type 0
TakeFits Any = Unit {0}
TakeFits (Of mask) = mask < 2 ^ 32
TakeFits (Exact mask) = mask < 2 ^ 32

abbrev pub UntilFits : Option ℕ → Type 0
UntilFits None = Unit {0}
UntilFits (Some date) = date < 2 ^ 64

-- the bytes of one transfer
abbrev pub BytesFit : List ℕ → Type 0
BytesFit bytes = IsBytes bytes × (length bytes ≤ 256)

-- what fits a value's type
abbrev pub Fits : Told → Type 0
Fits (a_byte n) = n < 2 ^ 8
Fits (a_half n) = n < 2 ^ 16
Fits (a_word n) = n < 2 ^ 32
Fits (a_number n) = n < 2 ^ 64
Fits (a_stage stage) = Unit {0}
Fits (a_policy policy) = PolicyFits policy
Fits (a_take take) = TakeFits take
Fits (a_way way) = Unit {0}
Fits (a_bytes sent) = BytesFit sent.items
Fits (a_until until) = UntilFits until
Fits (a_truth truth) = Unit {0}

abbrev pub AllFit : List Keyed → Type 0
AllFit [] = Unit {0}
AllFit (keyed ∷ rest) = Fits keyed.1 × AllFit rest

abbrev pub CallFits : Call → Type 0
CallFits call = AllFit (told_in call)

abbrev pub StepFits : Step → Type 0
StepFits step = (step.who.0 < 2 ^ 16) × CallFits step.call

abbrev pub StepsFit : List Step → Type 0
StepsFit [] = Unit {0}
StepsFit (step ∷ rest) = StepFits step × StepsFit rest

abbrev pub AreWords : List ℕ → Type 0
AreWords words = (i : ℕ) → slice_index words i < 2 ^ 32

-- how long a board's lists can be, and the bits of its flag groups
abbrev pub BoardHolds : Board → Type 0
BoardHolds board =
    (length board.sems.items ≤ sem_limit)
    × (length board.flags.items ≤ flags_limit)
    × (length board.xbufs.items ≤ 16)
    × (length board.mutexes.items ≤ 32)
    × (length board.groups.items ≤ 16)
    × AreWords board.flags.items
