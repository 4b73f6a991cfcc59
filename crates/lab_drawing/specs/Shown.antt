-- The words of a machine's callers, as their lines show them.
use Rattle.std.specs.Prelude.{ℕ, ◌<◌, ◌^◌, ◌==◌, Bool, true, false, List, [], ◌++◌, codes, decimal, if◌then◌else◌, Option, Some, None}
use Rattle.evl_base.specs.declared.stage.Stage as stages
use Rattle.evl_base.specs.declared.stage.Stage.TheVariants as stage
use Rattle.lab_drawing.specs.Lanes.{lane_text}
use Rattle.lab_drawing.specs.Words.{bar}
use Rattle.lab_drawing.specs.declared.lanes.Lane.{Lane}
use Rattle.lab_drawing.specs.declared.lanes.Lane.TheVariants.{Core, Mutex, Stax}
use Rattle.lab_drawing.specs.declared.moments.Condition.{Condition}
use Rattle.lab_drawing.specs.declared.moments.Condition.TheVariants.{Claimed, Inband, Oob, Owned, Taken}
use Rattle.lab_drawing.specs.declared.moments.Standing.{Standing}

-- a stax that nobody holds, or that so many hold at a stage; a mutex with the owner that its word names, and whether it is claimed; who has the core
pub data Word : Type 0 where
  free_stax : ℕ → Word
  held_stax : ℕ → stages.Stage → ℕ → Word
  mutex : ℕ → Option ℕ → Bool → Word
  core : Option ℕ → Word

abbrev pub lane_of : Word → Lane
lane_of (free_stax number) = Stax number
lane_of (held_stax number at count) = Stax number
lane_of (mutex number owner claimed) = Mutex number
lane_of (core holder) = Core

-- ---- how it is printed

abbrev pub stage_words : stages.Stage → List ℕ
stage_words stage.Inband = codes "in-band"
stage_words stage.Oob = codes "out-of-band"

abbrev pub holders_text : ℕ → List ℕ
holders_text count = codes ", " ++ (decimal count ++ (if count == 1 then codes " holder" else codes " holders"))

abbrev pub owner_text : Option ℕ → List ℕ
owner_text None = codes "free"
owner_text (Some owner) = codes "T" ++ decimal owner

abbrev pub holder_text : Option ℕ → List ℕ
holder_text None = codes "free"
holder_text (Some holder) = codes "taken by T" ++ decimal holder

abbrev pub word_text : Word → List ℕ
word_text (free_stax number) = codes "free"
word_text (held_stax number at count) = stage_words at ++ holders_text count
word_text (mutex number owner claimed) = owner_text owner ++ (if claimed then codes ", claimed" else [])
word_text (core holder) = holder_text holder

-- a line that shows a word after its front part
abbrev pub line_showing : List ℕ → Word → List ℕ
line_showing front word = front ++ (bar ++ (lane_text (lane_of word) ++ (codes ": " ++ word_text word)))

-- ---- the state of its lane, if it isn't free

abbrev pub stage_condition : stages.Stage → Condition
stage_condition stage.Inband = Inband
stage_condition stage.Oob = Oob

abbrev pub word_stands : Word → Option Standing
word_stands (free_stax number) = None
word_stands (held_stax number at count) = Some (record { lane = Stax number; condition = stage_condition at; number = Some count; policy = None; lender = None })
word_stands (mutex number owner true) = Some (record { lane = Mutex number; condition = Claimed; number = owner; policy = None; lender = None })
word_stands (mutex number (Some owner) false) = Some (record { lane = Mutex number; condition = Owned; number = Some owner; policy = None; lender = None })
word_stands (mutex number None false) = None
word_stands (core (Some holder)) = Some (record { lane = Core; condition = Taken; number = Some holder; policy = None; lender = None })
word_stands (core None) = None

-- numbers that fit 16 bits
abbrev pub NumberFits : Option ℕ → Type 0
NumberFits None = Unit {0}
NumberFits (Some number) = number < 2 ^ 16

abbrev pub WordFits : Word → Type 0
WordFits (free_stax number) = number < 2 ^ 16
WordFits (held_stax number at count) = (number < 2 ^ 16) × (count < 2 ^ 16)
WordFits (mutex number owner claimed) = (number < 2 ^ 16) × NumberFits owner
WordFits (core holder) = NumberFits holder
