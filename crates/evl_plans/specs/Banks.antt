-- The bank that a text is: the callbacks that it asks for.
use Rattle.std.specs.Prelude.{ℕ, ◌+◌, nat_le, nat_lt, Bool, List, [], ◌∷◌, if◌then◌else◌, Option, Some, None, option_map, option_and_then, Result, Ok, Err, codes}
use Rattle.std.specs.Str.{is_utf8}
use Rattle.toml.specs.Data.{Data, Items, no_items, item, Members, get_member, as_table, as_array}
use Rattle.toml.specs.Parse.{parse_document}
use Rattle.evl_pipeline.specs.declared.action.Action.{Action}
use Rattle.evl_pipeline.specs.declared.action.Action.TheVariants.{PostSem, PostFlags, Propagate, PostOob, StopTimer}
use Rattle.evl_kernel.specs.state.States.{Handler}
use Rattle.evl_scenario.specs.Tables.{has_only, value_at, value_or}
use Rattle.evl_scenario.specs.Values.{number_from, word_from, half_word_from, truth_from}
use Rattle.evl_plans.specs.Plans.{of_rows}
use Rattle.evl_plans.specs.declared.faults.Part.{Part}
use Rattle.evl_plans.specs.declared.faults.Part.TheVariants.{Keys, Accepts, Rows, Row}
use Rattle.evl_plans.specs.declared.faults.BankFault.{BankFault}
use Rattle.evl_plans.specs.declared.faults.BankFault.TheVariants as fault

-- a count from 1 on
abbrev pub from_one : ℕ → Option ℕ
from_one n = if nat_le 1 n then Some n else None

-- the count at a key, which is 1 where nothing is there
abbrev pub count_at : List ℕ → Members → Option ℕ
count_at key ms = option_and_then from_one (value_or number_from 1 (get_member key ms))

-- `propagate = true`
abbrev pub handed_on : Bool → Option Action
handed_on is_on = if is_on then Some Propagate else None

abbrev pub flags_posted : Members → Option Action
flags_posted ms =
    option_and_then (λ group. option_map (λ bits. PostFlags (record { 0 = group }) bits) (value_at word_from (codes "bits") ms))
    (value_at half_word_from (codes "post_flags") ms)

-- the keys of a row that has this key beside its period
abbrev pub row_keys : List ℕ → List (List ℕ)
row_keys key = codes "every" ∷ key ∷ []

-- the action that a row asks for, by the one key that it has beside its period
abbrev pub action_of : Members → Option Action
action_of ms =
    if has_only (row_keys (codes "post_sem")) ms then option_map (λ n. PostSem (record { 0 = n })) (value_at half_word_from (codes "post_sem") ms) else
    if has_only (codes "every" ∷ codes "post_flags" ∷ codes "bits" ∷ []) ms then flags_posted ms else
    if has_only (row_keys (codes "propagate")) ms then option_and_then handed_on (value_at truth_from (codes "propagate") ms) else
    if has_only (row_keys (codes "post_oob")) ms then option_map (λ n. PostOob (record { 0 = n })) (value_at half_word_from (codes "post_oob") ms) else
    if has_only (row_keys (codes "stop_timer")) ms then option_map (λ n. StopTimer (record { 0 = n })) (value_at half_word_from (codes "stop_timer") ms) else
    None

-- a row: its period and its action
abbrev pub row_in : Members → Option (ℕ × Action)
row_in ms = option_and_then (λ every. option_map (λ action. (every, action)) (action_of ms)) (count_at (codes "every") ms)

-- the row with this number, from 1: there are four at most
abbrev pub row_at : ℕ → Data → Option (ℕ × Action)
row_at n value = if nat_lt 4 n then None else option_and_then row_in (as_table value)

abbrev pub with_row : ℕ → Option (ℕ × Action) → Result (List (ℕ × Action)) Part → Result (List (ℕ × Action)) Part
with_row n None rest = Err (Row n)
with_row n (Some row) (Ok rows) = Ok (row ∷ rows)
with_row n (Some row) (Err part) = Err part

-- the rows from this number on, or the first that can't be read
abbrev pub rows_from : ℕ → Items → Result (List (ℕ × Action)) Part
rows_from n no_items = Ok []
rows_from n (item value rest) = with_row n (row_at n value) (rows_from (n + 1) rest)

abbrev pub rows_in : Option Items → Result (List (ℕ × Action)) Part
rows_in None = Err Rows
rows_in (Some values) = rows_from 1 values

-- the rows at a key, of which there are none where nothing is there
abbrev pub rows_at : Option Data → Result (List (ℕ × Action)) Part
rows_at None = Ok []
rows_at (Some value) = rows_in (as_array value)

abbrev pub with_accepts : Option ℕ → Result (List (ℕ × Action)) Part → Result Handler Part
with_accepts None rows = Err Accepts
with_accepts (Some accepts) (Ok rows) = Ok (of_rows accepts rows)
with_accepts (Some accepts) (Err part) = Err part

-- the callback that a table means, or the part that can't be read
abbrev pub callback_in : Members → Result Handler Part
callback_in ms =
    if has_only (codes "accepts" ∷ codes "do" ∷ []) ms then with_accepts (count_at (codes "accepts") ms) (rows_at (get_member (codes "do") ms))
    else Err Keys

abbrev pub callback_of : Option Members → Result Handler Part
callback_of None = Err Keys
callback_of (Some ms) = callback_in ms

-- the callback with this number, from 0: there are 64 at most
abbrev pub callback_at : ℕ → Data → Result Handler Part
callback_at n value = if nat_lt 63 n then Err Keys else callback_of (as_table value)

abbrev pub with_callback : ℕ → Result Handler Part → Result (List Handler) BankFault → Result (List Handler) BankFault
with_callback n (Err part) rest = Err (fault.Callback n part)
with_callback n (Ok handler) (Ok handlers) = Ok (handler ∷ handlers)
with_callback n (Ok handler) (Err e) = Err e

-- the callbacks from this number on, or the first that can't be read
abbrev pub callbacks_from : ℕ → Items → Result (List Handler) BankFault
callbacks_from n no_items = Ok []
callbacks_from n (item value rest) = with_callback n (callback_at n value) (callbacks_from (n + 1) rest)

abbrev pub callbacks_in : Option Items → Result (List Handler) BankFault
callbacks_in None = Err fault.Document
callbacks_in (Some values) = callbacks_from 0 values

abbrev pub callbacks_at : Option Data → Result (List Handler) BankFault
callbacks_at None = Ok []
callbacks_at (Some value) = callbacks_in (as_array value)

-- the bank that a document means: its one key is `callback`, with tables
abbrev pub bank_in : Members → Result (List Handler) BankFault
bank_in ms = if has_only (codes "callback" ∷ []) ms then callbacks_at (get_member (codes "callback") ms) else Err fault.Document

abbrev pub document_bank : Option Members → Result (List Handler) BankFault
document_bank None = Err fault.Text
document_bank (Some ms) = bank_in ms

-- rule: A text of callbacks is read as exactly the callbacks that it asks for, or refused for the first, and the part
--   of it, that cannot be read.
--   clauses: read_bank
--   rows: a_bank_of_ones_own_is_played; banks_at_fault_are_refused
-- the bank that a text is
abbrev pub bank_of : List ℕ → Result (List Handler) BankFault
bank_of text = if is_utf8 text then document_bank (parse_document text) else Err fault.Text
