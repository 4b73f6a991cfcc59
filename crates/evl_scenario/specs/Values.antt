-- The meaning of a TOML value in a scenario.
use Rattle.std.specs.Prelude.{ℕ, ◌==◌, nat_eq, codes, drop, ◌^◌, List, length, Bool, ◌&&◌, nat_lt, decimal, if◌then◌else◌, Option, Some, None, option_map, option_and_then, pos}
use Rattle.std.specs.List.{starts_with, position_or_len, before_first, after_first}
use Rattle.std.specs.Str.{bytes_eq}
use Rattle.std.specs.Str.Parse.{digits_value}
use Rattle.toml.specs.Data.{Data, integer, string, Items, no_items, item, as_str, as_bool, as_array}
use Rattle.evl_base.specs.declared.mutex_kind.MutexKind.{MutexKind}
use Rattle.evl_base.specs.declared.mutex_kind.MutexKind.TheVariants.{Normal, Recursive, Ceiling}
use Rattle.evl_base.specs.declared.numbers.ThreadId.{ThreadId}
use Rattle.evl_base.specs.declared.stage.Stage.{Stage}
use Rattle.evl_base.specs.declared.stage.Stage.TheVariants.{Inband, Oob}

-- the number below 2 ^ 64 whose decimal digits, without leading zeros, the text is
abbrev pub text_number : List ℕ → Option ℕ
text_number text =
    let n = digits_value 10 text in
    if nat_lt n (2 ^ 64) && bytes_eq (decimal n) text then Some n else None

abbrev pub is_space : ℕ → Bool
is_space byte = byte == 32

-- what is before the first space, and what is after it
abbrev pub around_space : List ℕ → Option (List ℕ × List ℕ)
around_space text = if nat_lt (position_or_len is_space text) (length text) then Some (before_first is_space text, after_first is_space text) else None

-- rule: A number is a TOML integer from 0, in any form, or a text of decimal digits without leading zeros.
--   also: Values.text_number
--   rows: forms_of_numbers; forms_of_no_number; rare_numbers
-- an integer that isn't negative, or the text of a number
abbrev pub number_from : Data → Option ℕ
number_from (integer (pos n)) = Some n
number_from (string text) = text_number text
number_from _ = None

-- rule: A number that fits its width but is outside the board goes to the kernel; one that does not fit is a bad step.
--   rows: bank_and_tags; bad_steps
-- the number, where it is below a bound
abbrev pub number_below : ℕ → Option ℕ → Option ℕ
number_below bound number = option_and_then (λ n. if nat_lt n bound then Some n else None) number

abbrev pub word_from : Data → Option ℕ
word_from value = number_below (2 ^ 32) (number_from value)

abbrev pub half_word_from : Data → Option ℕ
half_word_from value = number_below (2 ^ 16) (number_from value)

abbrev pub byte_from : Data → Option ℕ
byte_from value = number_below (2 ^ 8) (number_from value)

abbrev pub thread_from : Data → Option ThreadId
thread_from value = option_map (λ n. record { 0 = n }) (half_word_from value)

-- rule: Stages, ways, kinds and policies are exactly their texts, with one space between two parts.
--   also: Transfers.way_of; Takes.take_of; Policies.policy_of
--   rows: way; take; two_spaces
abbrev pub stage_of : List ℕ → Option Stage
stage_of text =
    if bytes_eq text (codes "inband") then Some Inband
    else if bytes_eq text (codes "oob") then Some Oob
    else None

abbrev pub stage_from : Data → Option Stage
stage_from value = option_and_then stage_of (as_str value)

-- the date of a deadline, or the text `none` where there is none
abbrev pub until_of : List ℕ → Option (Option ℕ)
until_of text = if bytes_eq text (codes "none") then Some None else option_map Some (text_number text)

-- rule: The deadline of a wait is a number or the text `none`; without the key there is none.
--   also: Steps.call_of
--   rows: until; begin_get; begin_read; begin_take
abbrev pub until_from : Data → Option (Option ℕ)
until_from (string text) = until_of text
until_from value = option_map Some (number_from value)

-- rule: `keep` is a truth value of TOML, false without the key.
--   rows: keep; finish
-- a truth value of TOML, and no text of one
abbrev pub truth_from : Data → Option Bool
truth_from value = as_bool value

-- just two items: the size of the ring of way `In`, and that of way `Out`
abbrev pub two_sizes : Items → Option (ℕ × ℕ)
two_sizes (item inbound (item outbound no_items)) =
    option_and_then (λ first. option_map (λ second. (first, second)) (half_word_from outbound)) (half_word_from inbound)
two_sizes _ = None

abbrev pub ring_sizes_from : Data → Option (ℕ × ℕ)
ring_sizes_from value = option_and_then two_sizes (as_array value)

-- what follows this front part of a text
abbrev pub past_front : List ℕ → List ℕ → Option (List ℕ)
past_front front text = if starts_with nat_eq text front then Some (drop (length front) text) else None

abbrev pub mutex_kind_of : List ℕ → Option MutexKind
mutex_kind_of text =
    if bytes_eq text (codes "normal") then Some Normal
    else if bytes_eq text (codes "recursive") then Some Recursive
    else option_map Ceiling (number_below (2 ^ 8) (option_and_then text_number (past_front (codes "ceiling ") text)))

abbrev pub mutex_kind_from : Data → Option MutexKind
mutex_kind_from value = option_and_then mutex_kind_of (as_str value)
