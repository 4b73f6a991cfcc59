-- The words after the answer in a caller's line: the state of a stax, of a mutex's word or of the core.
use Rattle.std.specs.Prelude.{ℕ, List, [], ◌∷◌, codes, bytes_eq, if◌then◌else◌, Option, Some, None, option_and_then, option_map}
use Rattle.std.specs.Option.{option_map_or, option_or}
use Rattle.evl_scenario.specs.Values.{past_front}
use Rattle.lab_drawing.specs.Texts.{around_part, number_in, up_to}
use Rattle.lab_drawing.specs.declared.lanes.Lane.{Lane}
use Rattle.lab_drawing.specs.declared.lanes.Lane.TheVariants.{Core, Mutex, Stax}
use Rattle.lab_drawing.specs.declared.moments.Condition.{Condition}
use Rattle.lab_drawing.specs.declared.moments.Condition.TheVariants.{Claimed, Inband, Oob, Owned, Taken}
use Rattle.lab_drawing.specs.declared.moments.Standing.{Standing}

-- what is between an answer and what is shown
abbrev pub bar : List ℕ
bar = codes " | "

-- the answer alone
abbrev pub outcome : List ℕ → List ℕ
outcome answer = up_to bar answer

-- the number that follows a word
abbrev pub number_behind : List ℕ → List ℕ → Option ℕ
number_behind word text = option_and_then (number_in 16) (past_front word text)

-- the lane of the first of some words after which a number is found
abbrev pub first_lane : (List ℕ → Option ℕ) → List (List ℕ × (ℕ → Lane)) → Option Lane
first_lane found [] = None
first_lane found (one ∷ rest) = option_or (option_map one.1 (found one.0)) (first_lane found rest)

-- the words for lanes with a number
abbrev pub lane_words : List (List ℕ × (ℕ → Lane))
lane_words = (codes "stax ", λ number. Stax number) ∷ (codes "mutex ", λ number. Mutex number) ∷ []

-- the lane of a stax, a mutex or the core
abbrev pub lane_named : List ℕ → Option Lane
lane_named name = if bytes_eq name (codes "core") then Some Core else first_lane (λ word. number_behind word name) lane_words

-- what is shown after the bar: a lane, and its state in words
abbrev pub word_shown : List ℕ → Option (Lane × List ℕ)
word_shown line =
    option_and_then (λ (front, behind).
    option_and_then (λ (name, how).
    option_map (λ lane. (lane, how)) (lane_named name)) (around_part (codes ": ") behind)) (around_part bar line)

-- ---- its state, where it isn't free, and the number that is printed with it

-- at which stage a stax is held
abbrev pub held_at : List ℕ → Option Condition
held_at stage =
    if bytes_eq stage (codes "in-band") then Some Inband
    else if bytes_eq stage (codes "out-of-band") then Some Oob
    else None

-- a stax: its stage, and how many hold it
abbrev pub stax_stands : List ℕ → Option (Condition × Option ℕ)
stax_stands how =
    option_and_then (λ (stage, holders).
    option_and_then (λ condition.
    option_map (λ (count, rest). (condition, number_in 16 count)) (around_part (codes " ") holders)) (held_at stage)) (around_part (codes ", ") how)

-- a mutex: whether it is claimed, and its owner
abbrev pub mutex_stands : List ℕ → Option (Condition × Option ℕ)
mutex_stands how =
    option_map_or (λ cut. Some (Claimed, number_behind (codes "T") cut.0)) (around_part (codes ", claimed") how)
    (option_map (λ owner. (Owned, Some owner)) (number_behind (codes "T") how))

-- the core: who has it
abbrev pub core_stands : List ℕ → Option (Condition × Option ℕ)
core_stands how = option_map (λ holder. (Taken, Some holder)) (number_behind (codes "taken by T") how)

abbrev pub stands_by : Lane → List ℕ → Option (Condition × Option ℕ)
stands_by (Stax number) how = stax_stands how
stands_by (Mutex number) how = mutex_stands how
stands_by Core how = core_stands how
stands_by _ how = None

abbrev pub stood : Lane → Condition × Option ℕ → Standing
stood lane told = record { lane = lane; condition = told.0; number = told.1; policy = None; lender = None }

-- the state of a lane by these words
abbrev pub standing_by : Lane → List ℕ → Option Standing
standing_by lane how = option_map (stood lane) (stands_by lane how)
