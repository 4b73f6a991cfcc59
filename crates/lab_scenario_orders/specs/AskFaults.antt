-- Why it can't be read what is asked: which key is at fault, and of a list which text, by its number from 1.
use Rattle.std.specs.Prelude.{ℕ, zero, suc, ◌≡◌, ◌++◌, ◌⊎◌, false, List, codes, Option, Some, None, option_and_then, option_map, IsSomeAnd}
use Rattle.std.specs.Str.{is_utf8, trim}
use Rattle.std.specs.Str.Iter.{HasSubslice}
use Rattle.toml.specs.Data.{Data, Items, no_items, item, Members, as_array, as_str, get_member}
use Rattle.toml.specs.Parse.{parse_document}
use Rattle.evl_base.specs.declared.board.Board.{Board}
use Rattle.evl_scenario.specs.Tables.{all_given, has_only, value_or}
use Rattle.evl_scenario.specs.Values.{truth_from}
use Rattle.lab_scenario_orders.specs.Asks.{ask_keys, ask_table, is_caller_text, number_given}
use Rattle.lab_scenario_orders.specs.Claims.{Claims, IsUnread, first_lacked, near_word}
use Rattle.lab_scenario_orders.specs.Splits.{ask_part}
use Rattle.lab_scenario_orders.specs.WatchTexts.{texts_in, when_key}
use Rattle.lab_scenario_orders.specs.declared.asks.AskFault.{AskFault}
use Rattle.lab_scenario_orders.specs.declared.asks.AskFault.TheVariants as fault
use Rattle.lab_scenario_orders.specs.declared.asks.AskKey.{AskKey}
use Rattle.lab_scenario_orders.specs.declared.asks.AskKey.TheVariants as key
use Rattle.lab_scenario_orders.specs.declared.asks.FactFault.{FactFault}
use Rattle.lab_scenario_orders.specs.declared.asks.FactFault.TheVariants as facts
use Rattle.lab_scenario_orders.specs.declared.callers.Caller.{Caller}
use Rattle.lab_scenario_orders.specs.declared.facts.Claim.{Claim}
use Rattle.lab_scenario_orders.specs.declared.watches.When.{When}
use Rattle.lab_scenario_orders.specs.declared.watches.When.TheVariants as when

-- ---- a text of a list

-- the text with this number among items
abbrev pub text_in : ℕ → Items → Option (List ℕ)
text_in zero items = None
text_in (suc n) no_items = None
text_in (suc zero) (item value rest) = as_str value
text_in (suc (suc n)) (item value rest) = text_in (suc n) rest

-- in a list
abbrev pub text_at : ℕ → Option Data → Option (List ℕ)
text_at n value = option_and_then (text_in n) (option_and_then as_array value)

-- just one arrow is in a text, between these
pub record IsAroundArrow (text before behind : List ℕ) : Type 0 where
  pub arrow : text ≡ before ++ (codes "->" ++ behind)
  pub first : HasSubslice before (codes "->") → ⊥
  pub single : HasSubslice (trim behind) (codes "->") → ⊥

-- a text is none of a caller and one answer
abbrev pub IsNoAnswer : List Caller → List ℕ → Type 0
IsNoAnswer callers text = (before behind : List ℕ) → IsAroundArrow text before behind → is_caller_text callers (trim before) ≡ false

-- of a text that isn't facts: this word may be meant in it; of one that is: this part is the first that it names and the board lacks
abbrev pub IsNoFacts : Board → FactFault → List ℕ → Type 0
IsNoFacts board (facts.Unread word) text = IsUnread text × (option_map (λ w. w.now) word ≡ near_word text)
IsNoFacts board (facts.Lacking part) text = (claims : List Claim) × Claims text claims × (first_lacked board claims ≡ Some part)

-- ---- why a table can't be asked

-- a key has another value than it may have; or the table has another key than it may have
abbrev pub IsBadKey : Members → AskKey → Type 0
IsBadKey ms key.Never = texts_in (get_member (codes "never") ms) ≡ None
IsBadKey ms key.AlwaysEnds = value_or truth_from false (get_member (codes "always_ends") ms) ≡ None
IsBadKey ms key.EndsWaits = value_or truth_from false (get_member (codes "ends_waits") ms) ≡ None
IsBadKey ms key.AsPicked = value_or truth_from false (get_member (codes "as_picked") ms) ≡ None
IsBadKey ms key.NeverState = texts_in (get_member (codes "never_state") ms) ≡ None
IsBadKey ms key.Sometimes = texts_in (get_member (codes "sometimes") ms) ≡ None
IsBadKey ms key.Always = texts_in (get_member (codes "always") ms) ≡ None
IsBadKey ms key.Outcomes = value_or number_given None (get_member (codes "outcomes") ms) ≡ None
IsBadKey ms key.Other = has_only ask_keys ms ≡ false

-- the key of facts
abbrev pub key_of : When → AskKey
key_of when.Never = key.NeverState
key_of when.Sometimes = key.Sometimes
key_of when.Always = key.Always

abbrev pub IsWhy : List Caller → Board → Members → AskFault → Type 0
IsWhy callers board ms fault.Table = ⊥
IsWhy callers board ms (fault.Key k line) = IsBadKey ms k
IsWhy callers board ms (fault.Never n) = IsSomeAnd (text_at n (get_member (codes "never") ms)) (IsNoAnswer callers)
IsWhy callers board ms (fault.Facts k n why line) = (w : When) × (k ≡ key_of w) × IsSomeAnd (text_at n (get_member (when_key w) ms)) (IsNoFacts board why)
IsWhy callers board ms fault.Memory = Unit {0}

-- the same where there may be no such table
abbrev pub IsWhyIn : List Caller → Board → Option Members → AskFault → Type 0
IsWhyIn callers board None e = (e ≡ fault.Table) ⊎ (e ≡ fault.Memory)
IsWhyIn callers board (Some ms) e = IsWhy callers board ms e

-- rule: All that is asked is refused for a key that has no such value or isn't one of `[ask]`; for a text of `never`, by
--   its number from 1, that is no caller of the text with one answer; or for a text of facts, by its key and number,
--   with the word that may be meant where one of its parts between ` and `s is no fact, else with the first part that
--   it names and the board lacks.
--   also: AskFaults.{IsBadKey, IsNoAnswer, IsNoFacts}; Claims.IsUnread
--   clauses: read_ask: why
--   rows: what_cant_be_asked_is_refused
-- of a text: it isn't UTF-8, its tables `[ask]` aren't one table, or that table can't be asked
abbrev pub IsWhyOf : List Caller → Board → List ℕ → AskFault → Type 0
IsWhyOf callers board text e =
    ((e ≡ fault.Table) × (is_utf8 text ≡ false)) ⊎ IsWhyIn callers board (option_and_then ask_table (parse_document (ask_part text))) e

-- ---- of a list at a key, and of its value with some number

-- facts stand at the key
abbrev pub IsOfFacts : AskKey → Type 0
IsOfFacts k = (w : When) × (k ≡ key_of w)

-- a value is no text, or the text is none that may stand at the key
abbrev pub IsBadValue : List Caller → Board → AskKey → ℕ → Data → AskFault → Type 0
IsBadValue callers board k n value fault.Table = ⊥
IsBadValue callers board k n value (fault.Key bad line) = (bad ≡ k) × (as_str value ≡ None)
IsBadValue callers board k n value (fault.Never m) = (k ≡ key.Never) × (m ≡ n) × IsSomeAnd (as_str value) (IsNoAnswer callers)
IsBadValue callers board k n value (fault.Facts bad m why line) = (bad ≡ k) × IsOfFacts k × (m ≡ n) × IsSomeAnd (as_str value) (IsNoFacts board why)
IsBadValue callers board k n value fault.Memory = Unit {0}

-- one of them is so
abbrev pub IsBadList : List Caller → Board → AskKey → Items → AskFault → Type 0
IsBadList callers board k items fault.Table = ⊥
IsBadList callers board k items (fault.Key bad line) = (bad ≡ k) × (all_given as_str items ≡ None)
IsBadList callers board k items (fault.Never n) = (k ≡ key.Never) × IsSomeAnd (text_in n items) (IsNoAnswer callers)
IsBadList callers board k items (fault.Facts bad n why line) = (bad ≡ k) × IsOfFacts k × IsSomeAnd (text_in n items) (IsNoFacts board why)
IsBadList callers board k items fault.Memory = Unit {0}
