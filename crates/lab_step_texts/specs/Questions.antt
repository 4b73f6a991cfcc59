-- Questions about moments, each on a line of a table `[ask]`.
use Rattle.std.specs.Prelude.{ℕ, ◌≡◌, ◌-◌, nat_lt, Bool, false, true, ◌&&◌, List, [], ◌∷◌, ◌++◌, All, IsSomeAnd, codes, if◌then◌else◌, is_none, is_some, length, map, Option, Some, None, option_and_then, option_map, slice_get, string_bytes}
use Rattle.std.specs.List.{list_all, list_any}
use Rattle.std.specs.Str.{bytes_eq, trim}
use Rattle.std.specs.Str.Iter.{HasSubslice}
use Rattle.std.specs.Str.Lines.{lines}
use Rattle.evl_base.specs.declared.board.Board.{Board}
use Rattle.evl_scenario.specs.declared.faults.Fault.TheVariants.{Memory}
use Rattle.lab_scenario_orders.specs.KeyLines.{around_equals, key_set}
use Rattle.lab_scenario_orders.specs.Splits.{bare, is_asked, joined_lines}
use Rattle.lab_scenario_orders.specs.declared.watches.When.{When}
use Rattle.lab_scenario_orders.specs.declared.watches.When.TheVariants.{Never, Sometimes, Always}
use Rattle.lab_step_orders.specs.declared.watches.StepClaim.{StepClaim}
use Rattle.lab_step_orders.specs.declared.watches.StepFact.{StepFact}
use Rattle.lab_step_orders.specs.declared.watches.StepFact.TheVariants.{HoldsStax, HeldOn, StaxClaimed, HoldsMutex, MutexFree, MutexClaimed, HasCore, CoreFree}
use Rattle.lab_step_orders.specs.declared.watches.StepWatch.{StepWatch}
use Rattle.lab_step_texts.specs.FactTexts.{claim_in}
use Rattle.lab_step_texts.specs.Near.{near_word}
use Rattle.lab_step_texts.specs.declared.faults.StepsFault.{StepsFault}
use Rattle.lab_step_texts.specs.declared.faults.StepsFault.TheVariants.{Text, Question, Facts, Lacking}
use Rattle.lab_step_texts.specs.declared.questions.NotAsked.{NotAsked}
use Rattle.lab_step_texts.specs.declared.questions.NotAsked.TheVariants as not_asked

-- ---- a line

abbrev pub when_named : List ℕ → Option When
when_named key =
    if bytes_eq key (codes "never_state") then Some Never
    else if bytes_eq key (codes "sometimes") then Some Sometimes
    else if bytes_eq key (codes "always") then Some Always
    else None

abbrev pub when_set : List ℕ → Option When
when_set line = option_and_then when_named (key_set line)

-- of a line that is in a table `[ask]` or not
abbrev pub when_asked : Bool → List ℕ → Option When
when_asked is line = if is then when_set line else None

abbrev pub value_set : List ℕ → Option (List ℕ)
value_set line = option_map (λ parts. trim parts.1) (around_equals (bare line))

-- texts with this between them
abbrev pub joined_by : List ℕ → List (List ℕ) → List ℕ
joined_by between [] = []
joined_by between (text ∷ []) = text
joined_by between (text ∷ (next ∷ rest)) = text ++ (between ++ joined_by between (next ∷ rest))

-- this is nowhere in a text
abbrev pub IsWithout : List ℕ → List ℕ → Type 0
IsWithout between text = HasSubslice text between → ⊥

-- a text is parted into these wherever this is
pub record IsParted (between text : List ℕ) (texts : List (List ℕ)) : Type 0 where
  pub written : joined_by between texts ≡ text
  pub single : All (IsWithout between) texts

-- a text claims this: facts with `and` between them
pub record Claims (text : List ℕ) (claims : List StepClaim) : Type 0 where
  pub texts : List (List ℕ)
  pub written : joined_by (codes " and ") texts ≡ text
  pub each : map claim_in texts ≡ map (λ claim. Some claim) claims

pub record IsOne (kind : When) (watch : StepWatch) : Type 0 where
  pub when : watch.when ≡ kind
  pub claims : Claims (string_bytes watch.text) watch.claims.items

-- one of these texts isn't a fact
abbrev pub has_strange : List (List ℕ) → Bool
has_strange texts = list_any (λ text. is_none (claim_in text)) texts

-- a text isn't facts: parted at its `and`s, one of its texts is none
pub record IsNoFacts (text : List ℕ) : Type 0 where
  pub texts : List (List ℕ)
  pub parted : IsParted (codes " and ") text texts
  pub strange : has_strange texts ≡ true

-- a value is this between brackets and quotes, and no such end is in it
pub record IsListed (value text : List ℕ) : Type 0 where
  pub written : value ≡ codes "[\"" ++ (text ++ codes "\"]")
  pub whole : IsWithout (codes "\"]") text

-- what a line asks that sets a key to this: texts in quotes, with commas between them
pub record AreOn (when : When) (value : List ℕ) (watches : List StepWatch) : Type 0 where
  pub written : value ≡ codes "[\"" ++ (joined_by (codes "\", \"") (map (λ watch. string_bytes watch.text) watches) ++ codes "\"]")
  pub are : All (IsOne when) watches

abbrev pub LineAsks : Option When → List ℕ → List StepWatch → Type 0
LineAsks None line watches = watches ≡ []
LineAsks (Some when) line watches = (value : List ℕ) × (value_set line ≡ Some value) × AreOn when value watches

-- ---- a text

-- what lines ask, where the line before them was in a table `[ask]` or not
abbrev pub AreAsked : Bool → List (List ℕ) → List StepWatch → Type 0
AreAsked was [] watches = watches ≡ []
AreAsked was (line ∷ rest) watches =
    (now : List StepWatch) × (later : List StepWatch) × (watches ≡ now ++ later) × LineAsks (when_asked (is_asked was line) line) line now × AreAsked (is_asked was line) rest later

-- the text without these lines, each other one at its place
abbrev pub unasked_line : Bool → List ℕ → List ℕ
unasked_line is line = if is_some (when_asked is line) then [] else line

abbrev pub unasked_lines : Bool → List (List ℕ) → List (List ℕ)
unasked_lines was [] = []
unasked_lines was (line ∷ rest) = unasked_line (is_asked was line) line ∷ unasked_lines (is_asked was line) rest

abbrev pub unasked_part : List ℕ → List ℕ
unasked_part text = joined_lines (unasked_lines false (lines text))

-- ---- a board has what facts name

abbrev pub is_there : Board → StepFact → Bool
is_there board (HoldsStax who stax) = nat_lt who.0 board.threads && nat_lt stax.0 (length board.staxes.items)
is_there board (HeldOn stax stage) = nat_lt stax.0 (length board.staxes.items)
is_there board (StaxClaimed stax) = nat_lt stax.0 (length board.staxes.items)
is_there board (HoldsMutex who mutex) = nat_lt who.0 board.threads && nat_lt mutex.0 (length board.mutexes.items)
is_there board (MutexFree mutex) = nat_lt mutex.0 (length board.mutexes.items)
is_there board (MutexClaimed mutex) = nat_lt mutex.0 (length board.mutexes.items)
is_there board (HasCore who) = nat_lt who.0 board.threads
is_there board CoreFree = true

abbrev pub names_there : Board → StepWatch → Bool
names_there board watch = list_all (λ claim. is_there board claim.fact) watch.claims.items

abbrev pub are_there : Board → List StepWatch → Bool
are_there board watches = list_all (names_there board) watches

-- ---- why nothing is asked

-- a text isn't facts: the one with this number, for which this word may be meant
abbrev pub IsUnread : ℕ → List ℕ → NotAsked → Type 0
IsUnread number text not_asked.Value = ⊥
IsUnread number text (not_asked.Text n meant) = (n ≡ number) × IsNoFacts text × (option_map (λ word. word.now) meant ≡ near_word text)
IsUnread number text not_asked.Memory = Unit {0}

-- one of these, which are numbered from 1
abbrev pub IsUnreadOf : List (List ℕ) → NotAsked → Type 0
IsUnreadOf texts not_asked.Value = ⊥
IsUnreadOf texts (not_asked.Text n meant) = IsSomeAnd (slice_get texts (n - 1)) (λ text. IsNoFacts text × (option_map (λ word. word.now) meant ≡ near_word text))
IsUnreadOf texts not_asked.Memory = Unit {0}

-- which stand in quotes, with commas between them
abbrev pub IsUnreadIn : List ℕ → NotAsked → Type 0
IsUnreadIn text not_asked.Value = ⊥
IsUnreadIn text (not_asked.Text n meant) = (texts : List (List ℕ)) × IsParted (codes "\", \"") text texts × IsUnreadOf texts (not_asked.Text n meant)
IsUnreadIn text not_asked.Memory = Unit {0}

-- in brackets, or there are none
abbrev pub IsUnlisted : List ℕ → NotAsked → Type 0
IsUnlisted value not_asked.Value = (text : List ℕ) → IsListed value text → ⊥
IsUnlisted value (not_asked.Text n meant) = (text : List ℕ) × IsListed value text × IsUnreadIn text (not_asked.Text n meant)
IsUnlisted value not_asked.Memory = Unit {0}

-- to which a line sets its key
abbrev pub IsUnreadAt : List ℕ → NotAsked → Type 0
IsUnreadAt line not_asked.Value = (value : List ℕ) → value_set line ≡ Some value → IsUnlisted value not_asked.Value
IsUnreadAt line (not_asked.Text n meant) = (value : List ℕ) × (value_set line ≡ Some value) × IsUnlisted value (not_asked.Text n meant)
IsUnreadAt line not_asked.Memory = Unit {0}

-- so the line with this number is at fault
abbrev pub line_fault : When → ℕ → NotAsked → StepsFault
line_fault when number not_asked.Value = Question number
line_fault when number (not_asked.Text n meant) = Facts number (record { when = when; number = n; meant = meant })
line_fault when number not_asked.Memory = Text Memory

-- of a line: it sets such a key, and not to facts, or to facts of what the board lacks
abbrev pub IsLineFault : Board → Option When → List ℕ → ℕ → StepsFault → Type 0
IsLineFault board when line number (Text fault) = fault ≡ Memory
IsLineFault board when line number (Question n) = (n ≡ number) × (is_some when ≡ true) × IsUnreadAt line not_asked.Value
IsLineFault board when line number (Facts n unread) = (n ≡ number) × (when ≡ Some unread.when) × IsUnreadAt line (not_asked.Text unread.number unread.meant)
IsLineFault board when line number (Lacking n) = (n ≡ number) × ((watches : List StepWatch) × LineAsks when line watches × (are_there board watches ≡ false))
IsLineFault board when line number fault = ⊥

-- the line with this number, from 1, is such a line
abbrev pub IsAt : (List ℕ → Type 0) → List (List ℕ) → ℕ → Type 0
IsAt Is all number = IsSomeAnd (slice_get all (number - 1)) Is

abbrev pub IsUnasked : Board → List (List ℕ) → StepsFault → Type 0
IsUnasked board all (Text fault) = fault ≡ Memory
IsUnasked board all (Question n) = IsAt (λ line. (is_some (when_set line) ≡ true) × IsUnreadAt line not_asked.Value) all n
IsUnasked board all (Facts n unread) = IsAt (λ line. (when_set line ≡ Some unread.when) × IsUnreadAt line (not_asked.Text unread.number unread.meant)) all n
IsUnasked board all (Lacking n) = IsAt (λ line. (watches : List StepWatch) × LineAsks (when_set line) line watches × (are_there board watches ≡ false)) all n
IsUnasked board all fault = ⊥
