-- How a gate is packed into its word: the number of holders in bits 0 to 15, their stage in bit 30, and the claim mark in bit 31.
use Rattle.std.specs.Prelude.{ℕ, ◌+◌, ◌*◌, ◌/◌, ◌%◌, ◌==◌, Bool, true, false, if◌then◌else◌, Option, length}
use Rattle.evl_base.specs.declared.stage.Stage.{Stage}
use Rattle.evl_base.specs.declared.stage.Stage.TheVariants.{Inband, Oob}
use Rattle.evl_base.specs.declared.refusal.Refusal.{Refusal}
use Rattle.evl_words.specs.declared.gate.Left.{Left}
use Rattle.evl_words.specs.declared.gate.Left.TheVariants.{Last, Others}
use Rattle.evl_words.specs.Gate.{Gate, entry_refusal}

abbrev pub stage_bit : Stage → ℕ
stage_bit Inband = 0
stage_bit Oob = 1

abbrev pub mark_bit : Bool → ℕ
mark_bit false = 0
mark_bit true = 1

-- rule: Bits 0 to 15 count the holders, bit 30 is their stage, bit 31 the claim mark.
--   rows: the_word_shows_holders_and_stage; the_word_shows_the_claim_mark
abbrev pub packed_gate : ℕ → Stage → Bool → ℕ
packed_gate count stage marked = count + stage_bit stage * 1073741824 + mark_bit marked * 2147483648

-- rule: The word counts the seats that hold the gate, and shows their stage.
--   also: GateWord.{count_in, stage_in}
--   clauses: word_shows_the_holders; holders_agree; holders_have_one_stage; gate_world_stands
abbrev pub word_of : Gate → ℕ
word_of g = packed_gate (length g.holders) g.stage g.marked

abbrev pub count_in : ℕ → ℕ
count_in word = word % 65536

abbrev pub stage_in : ℕ → Stage
stage_in word = if word / 1073741824 % 2 == 0 then Inband else Oob

abbrev pub mark_in : ℕ → Bool
mark_in word = word / 2147483648 % 2 == 1

-- why a gate with this word refuses a seat of the stage
abbrev pub word_refusal : ℕ → ℕ → Stage → Option Refusal
word_refusal limit word wanted = entry_refusal limit (count_in word) (stage_in word) wanted

-- the word with one holder more, of this stage
abbrev pub entered_word : ℕ → Stage → ℕ
entered_word word stage = packed_gate (count_in word + 1) stage (mark_in word)

-- who leaves a gate with this word
abbrev pub left_in : ℕ → Left
left_in word = if count_in word == 1 then Last (mark_in word) else Others
