-- The questions about all orders, by what is reported of their ends.
use Rattle.std.specs.Prelude.{ℕ, ◌≡◌, ◌==◌, Bool, true, false, ◌&&◌, ◌||◌, if◌then◌else◌, List, [], ◌∷◌, ◌++◌, codes, map, drop, take, length, string_bytes, Option, Some, None, is_some, option_and_then, option_map, unwrap_or, All}
use Rattle.std.specs.Fmt.{decimal}
use Rattle.std.specs.List.{list_any}
use Rattle.std.specs.Char.{is_ascii_digit}
use Rattle.std.specs.Str.{bytes_eq, trim}
use Rattle.std.specs.Str.Iter.{HasSubslice}
use Rattle.std.specs.Cmp.Lexicographic.{pointwise}
use Rattle.std.specs.Option.{option_map_or}
use Rattle.toml.specs.Data.{Data, Members, no_members, get_member, as_table}
use Rattle.evl_scenario.specs.Tables.{has_only, value_or}
use Rattle.evl_scenario.specs.Values.{half_word_from, truth_from}
use Rattle.lab_scenario_orders.specs.WatchTexts.{texts_in, watch_text, watched_in}
use Rattle.lab_scenario_orders.specs.declared.asks.Ask.{Ask}
use Rattle.lab_scenario_orders.specs.declared.asks.Never.{Never}
use Rattle.lab_scenario_orders.specs.declared.callers.Caller.{Caller}

-- what comes after the first text in the second, if that begins with it
abbrev pub text_behind : List ℕ → List ℕ → Option (List ℕ)
text_behind front text = if pointwise (λ a b. a == b) (take (length front) text) front then Some (drop (length front) text) else None

abbrev pub begins : List ℕ → List ℕ → Bool
begins front text = is_some (text_behind front text)

-- something holds of what comes after some line feed of a text
abbrev pub later_line : (List ℕ → Bool) → List ℕ → Bool
later_line holds [] = false
later_line holds (b ∷ bs) = (b == 10 && holds bs) || later_line holds bs

-- something holds of a text from the beginning of some line on
abbrev pub some_line : (List ℕ → Bool) → List ℕ → Bool
some_line holds text = holds text || later_line holds text

-- after an answer comes an arrow, or the end of the line
abbrev pub is_end : List ℕ → Bool
is_end text = begins (codes " -> ") text || begins (codes "\n") text

-- an arrow and this answer, whole, stand here
abbrev pub stands_here : List ℕ → List ℕ → Bool
stands_here answer text = option_map_or is_end (option_and_then (text_behind answer) (text_behind (codes " -> ") text)) false

-- and somewhere in the rest of the line
abbrev pub is_answered : List ℕ → List ℕ → Bool
is_answered answer [] = false
is_answered answer (b ∷ bs) = if b == 10 then false else (stands_here answer (b ∷ bs) || is_answered answer bs)

-- the line is this caller's, and has this answer
abbrev pub is_line_of : Never → List ℕ → Bool
is_line_of never text = option_map_or (λ rest. begins (codes " -> ") rest && is_answered (string_bytes never.answer) rest) (text_behind (string_bytes never.who) text) false

abbrev pub is_stuck_line : List ℕ → Bool
is_stuck_line text = begins (codes "stuck: ") text

-- after the digits of a text it says that somebody waits
abbrev pub waits_behind_number : List ℕ → Bool
waits_behind_number [] = false
waits_behind_number (b ∷ bs) = if is_ascii_digit b then waits_behind_number bs else begins (codes " waits") (b ∷ bs)

-- what is reported of a thread, be it stuck or not
abbrev pub past_stuck : List ℕ → List ℕ
past_stuck text = unwrap_or (text_behind (codes "stuck: ") text) text

-- a thread waits
abbrev pub is_wait_line : List ℕ → Bool
is_wait_line text = option_map_or waits_behind_number (text_behind (codes "T") (past_stuck text)) false

-- rule: The first outcome against `[ask]` is reported: a caller stuck, a thread that waits at the end, an answer. If
--   there is none, no order ends so.
--   clauses: ask_all; is_against
--   rows: waits_at_the_end_are_asked_for
-- what is reported of an outcome is against what is asked: a caller is stuck, a thread waits, or a caller has an answer that it
-- may never have
abbrev pub is_against : Ask → List ℕ → Bool
is_against ask told =
    ((ask.always_ends && some_line is_stuck_line told) || (ask.ends_waits && some_line is_wait_line told))
    || list_any (λ never. some_line (is_line_of never) told) ask.never.items

-- an answer that a caller may never have, as it is in the text
abbrev pub never_text : Never → List ℕ
never_text never = string_bytes never.text

-- a text is a caller and an answer, and an arrow between them, with white space around each or not
pub record IsParted (text who answer : List ℕ) : Type 0 where
  pub before : List ℕ
  pub behind : List ℕ
  pub arrow : text ≡ before ++ (codes "->" ++ behind)
  pub named : who ≡ trim before
  pub given : answer ≡ trim behind

-- how a caller is named
abbrev pub caller_text : ℕ → List ℕ
caller_text who = codes "T" ++ decimal who

-- one of these callers is named so
abbrev pub is_caller_text : List Caller → List ℕ → Bool
is_caller_text callers who = list_any (λ caller. bytes_eq (caller_text caller.who.0) who) callers

-- one of these callers, and just one answer: no arrow is in it
pub record IsAnswerOf (callers : List Caller) (never : Never) : Type 0 where
  pub who : is_caller_text callers (string_bytes never.who) ≡ true
  pub single : HasSubslice (string_bytes never.answer) (codes "->") → ⊥
  pub parted : IsParted (never_text never) (string_bytes never.who) (string_bytes never.answer)

-- what is asked is asked of these callers
abbrev pub AreOfCallers : List Caller → List Never → Type 0
AreOfCallers callers never = All (IsAnswerOf callers) never

abbrev pub ask_keys : List (List ℕ)
ask_keys =
    codes "never" ∷ codes "always_ends" ∷ codes "ends_waits" ∷ codes "as_picked" ∷ codes "never_state" ∷ codes "sometimes"
    ∷ codes "always" ∷ codes "outcomes" ∷ []

-- how many outcomes there are to be, below 2 ^ 16
abbrev pub number_given : Data → Option (Option ℕ)
number_given value = option_map (λ n. Some n) (half_word_from value)

-- a table asks just this
pub record Asks (ms : Members) (ask : Ask) : Type 0 where
  pub keys : has_only ask_keys ms ≡ true
  pub never : texts_in (get_member (codes "never") ms) ≡ Some (map never_text ask.never.items)
  pub ends : value_or truth_from false (get_member (codes "always_ends") ms) ≡ Some ask.always_ends
  pub waits : value_or truth_from false (get_member (codes "ends_waits") ms) ≡ Some ask.ends_waits
  pub picked : value_or truth_from false (get_member (codes "as_picked") ms) ≡ Some ask.as_picked
  pub watches : watched_in ms ≡ Some (map watch_text ask.watches.items)
  pub outcomes : value_or number_given None (get_member (codes "outcomes") ms) ≡ Some ask.outcomes

-- the table of a document, which is empty where there is none
abbrev pub ask_table : Members → Option Members
ask_table document = value_or as_table no_members (get_member (codes "ask") document)
