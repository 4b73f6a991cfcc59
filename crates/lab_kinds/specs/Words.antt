-- The keys of texts of callers, of banks and of what is asked, and what value is wanted at each.
use Rattle.std.specs.Prelude.{ℕ, nat_le, ◌==◌, Bool, true, false, not, ◌&&◌, ◌||◌, List, [], ◌∷◌, ◌++◌, codes, count_by, length, if◌then◌else◌, Option, None, Some, is_ok}
use Rattle.std.specs.List.{list_all}
use Rattle.std.specs.Str.{bytes_eq}
use Rattle.evl_plans.specs.Banks.{bank_of}
use Rattle.lab_callers_text.specs.Names.{is_name}
use Rattle.lab_faults.specs.Pieces.{pieces}
use Rattle.lab_faults.specs.Steps.{bytes_between, fits_step, is_within, unquoted}
use Rattle.lab_faults.specs.declared.tokens.Kind.{Kind}
use Rattle.lab_faults.specs.declared.tokens.Kind.TheVariants.{Word}
use Rattle.lab_faults.specs.declared.tokens.Token.{Token}

-- ---- keys

-- of steps that spend a pass
abbrev pub spends_pass : List ℕ → Bool
spends_pass word = bytes_eq word (codes "unlock_stax") || (bytes_eq word (codes "unlock_mutex_fast") || bytes_eq word (codes "try_unlock_mutex"))

abbrev pub is_of_core : List ℕ → Bool
is_of_core word = bytes_eq word (codes "take") || bytes_eq word (codes "give")

unfoldable pub stax_keys : List (List ℕ)
stax_keys = codes "who" ∷ codes "stax" ∷ codes "as" ∷ []

unfoldable pub mutex_keys : List (List ℕ)
mutex_keys = codes "who" ∷ codes "mutex" ∷ codes "as" ∷ []

unfoldable pub begin_keys : List (List ℕ)
begin_keys = codes "who" ∷ codes "mutex" ∷ codes "until" ∷ codes "as" ∷ []

unfoldable pub finish_keys : List (List ℕ)
finish_keys = codes "who" ∷ codes "as" ∷ []

unfoldable pub pass_keys : List (List ℕ)
pass_keys = codes "who" ∷ codes "pass" ∷ []

unfoldable pub core_keys : List (List ℕ)
core_keys = codes "who" ∷ []

-- the keys of a step with a word that callers alone have, but for `do`
abbrev pub own_keys : List ℕ → Option (List (List ℕ))
own_keys word =
    if spends_pass word then Some pass_keys
    else if is_of_core word then Some core_keys
    else if bytes_eq word (codes "try_lock_stax") then Some stax_keys
    else if bytes_eq word (codes "try_lock_mutex") then Some mutex_keys
    else if bytes_eq word (codes "begin_lock_mutex") then Some begin_keys
    else if bytes_eq word (codes "finish_lock_mutex") then Some finish_keys
    else None

-- the keys of `[ask]`, of a callback, and of its rows
unfoldable pub ask_keys : List (List ℕ)
ask_keys =
    codes "never" ∷ codes "always_ends" ∷ codes "ends_waits" ∷ codes "as_picked" ∷ codes "never_state" ∷ codes "sometimes"
    ∷ codes "always" ∷ codes "outcomes" ∷ []

-- the keys of `[ask]` where steps of callers are gone through, but for those that ask of moments; and all of them
unfoldable pub step_ask_keys : List (List ℕ)
step_ask_keys = codes "never" ∷ codes "always_ends" ∷ codes "ends_waits" ∷ codes "outcomes" ∷ []

unfoldable pub step_ask_names : List (List ℕ)
step_ask_names =
    codes "never" ∷ codes "always_ends" ∷ codes "ends_waits" ∷ codes "never_state" ∷ codes "sometimes" ∷ codes "always" ∷ codes "outcomes" ∷ []

unfoldable pub callback_keys : List (List ℕ)
callback_keys = codes "accepts" ∷ codes "do" ∷ []

unfoldable pub row_keys : List (List ℕ)
row_keys = codes "every" ∷ codes "post_sem" ∷ codes "post_flags" ∷ codes "bits" ∷ codes "propagate" ∷ codes "post_oob" ∷ codes "stop_timer" ∷ []

-- ---- values

abbrev pub is_pass_key : List ℕ → Bool
is_pass_key key = bytes_eq key (codes "as") || bytes_eq key (codes "pass")

abbrev pub is_list_key : List ℕ → Bool
is_list_key key =
    (bytes_eq key (codes "never") || bytes_eq key (codes "do"))
    || (bytes_eq key (codes "never_state") || (bytes_eq key (codes "sometimes") || bytes_eq key (codes "always")))

abbrev pub is_truth_key : List ℕ → Bool
is_truth_key key = bytes_eq key (codes "always_ends") || (bytes_eq key (codes "ends_waits") || bytes_eq key (codes "as_picked"))

abbrev pub is_count_key : List ℕ → Bool
is_count_key key = bytes_eq key (codes "accepts") || bytes_eq key (codes "every")

-- what value is wanted at a key
abbrev pub wanted_at : List ℕ → List ℕ
wanted_at key =
    if is_pass_key key then codes "a name in quotes, of 1 to 32 letters, digits, _ and -,"
    else if is_list_key key then codes "a list"
    else if is_truth_key key then codes "true or false"
    else if bytes_eq key (codes "propagate") then codes "true"
    else if is_count_key key then codes "a number from 1 to 18446744073709551615, above 9223372036854775807 as a string,"
    else if bytes_eq key (codes "bits") then codes "a number from 0 to 4294967295"
    else if bytes_eq key (codes "until") then codes "a number from 0 to 18446744073709551615, above 9223372036854775807 as a string, or \"none\""
    else codes "a number from 0 to 65535"

-- a name in quotes
abbrev pub is_pass_name : List ℕ → Bool
is_pass_name value = (is_within 34 value || is_within 39 value) && is_name (unquoted value)

abbrev pub is_true_text : List ℕ → Bool
is_true_text value = bytes_eq value (codes "true")

abbrev pub is_truth : List ℕ → Bool
is_truth value = is_true_text value || bytes_eq value (codes "false")

abbrev pub is_list : List ℕ → Bool
is_list [] = false
is_list (byte ∷ rest) = byte == 91

-- whether a text is a bank
unfoldable pub is_bank : List ℕ → Bool
is_bank text = is_ok (bank_of text)

-- whether a value can stand at `accepts`, and so at `every`
unfoldable pub is_count : List ℕ → Bool
is_count value = is_bank (codes "[[callback]]\naccepts = " ++ (value ++ codes "\n"))

-- whether a value can stand at a key; numbers are those that the reader of scenarios takes
abbrev pub fits_at : List ℕ → List ℕ → Bool
fits_at key value =
    if is_pass_key key then is_pass_name value
    else if is_list_key key then is_list value
    else if is_truth_key key then is_truth value
    else if bytes_eq key (codes "propagate") then is_true_text value
    else if is_count_key key then is_count value
    else if bytes_eq key (codes "bits") then fits_step (codes "post_flags") (codes "bits") value
    else if bytes_eq key (codes "until") then fits_step (codes "begin_get") (codes "until") value
    else fits_step (codes "peek") (codes "sem") value

-- ---- the limits of staxes

abbrev pub is_digit : ℕ → Bool
is_digit byte = nat_le 48 byte && nat_le byte 57

abbrev pub is_first_digit : ℕ → Bool
is_first_digit byte = nat_le 49 byte && nat_le byte 57

abbrev pub has_first_digit : List ℕ → Bool
has_first_digit [] = false
has_first_digit (byte ∷ rest) = is_first_digit byte

-- a number from 1 to 1000
abbrev pub is_limit : List ℕ → Bool
is_limit text = bytes_eq text (codes "1000") || (nat_le (length text) 3 && (list_all is_digit text && has_first_digit text))

abbrev pub is_word : Kind → Bool
is_word Word = true
is_word _ = false

-- a word of a list is such a number
abbrev pub is_limit_piece : List ℕ → Token → Bool
is_limit_piece value piece = not (is_word piece.kind) || is_limit (bytes_between value (piece.from, piece.to))

-- a list of at most 16 of them
unfoldable pub fits_staxes : List ℕ → Bool
fits_staxes value = is_list value && (list_all (is_limit_piece value) (pieces value) && nat_le (count_by (λ piece. is_word piece.kind) (pieces value)) 16)
