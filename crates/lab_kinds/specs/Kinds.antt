-- The kind of a text, by its headings and keys.
use Rattle.std.specs.Prelude.{ℕ, Bool, true, false, ◌&&◌, ◌||◌, List, codes, if◌then◌else◌, is_some}
use Rattle.std.specs.List.{list_any}
use Rattle.std.specs.Str.{bytes_eq}
use Rattle.lab_faults.specs.Keys.{text_headings, text_keys}
use Rattle.lab_faults.specs.Steps.{name_between}
use Rattle.lab_faults.specs.declared.items.Heading.{Heading}
use Rattle.lab_faults.specs.declared.items.Item.{Item}
use Rattle.lab_faults.specs.declared.items.Section.{Section}
use Rattle.lab_faults.specs.declared.items.Section.TheVariants.{Opening}
use Rattle.lab_kinds.specs.Words.{own_keys}
use Rattle.lab_kinds.specs.declared.kinds.TextKind.{TextKind}
use Rattle.lab_kinds.specs.declared.kinds.TextKind.TheVariants.{Scenario, Orders, Callers, Bank}

abbrev pub is_opening : Section → Bool
is_opening Opening = true
is_opening _ = false

-- a text of callers that has what the orders of their steps alone have is one for all orders
abbrev pub checked_as : TextKind → Bool → TextKind
checked_as Callers true = Orders
checked_as Callers false = Callers
checked_as Scenario _ = Scenario
checked_as Orders _ = Orders
checked_as Bank _ = Bank

module _ (text : List ℕ) where
  -- a heading of this name, and a key of this name above all headings
  abbrev pub is_headed : List ℕ → Heading → Bool
  is_headed name heading = bytes_eq (name_between text heading.name) name

  abbrev pub is_top : List ℕ → Item → Bool
  is_top name item = is_opening item.section && bytes_eq (name_between text item.key) name

  -- a table of this name
  abbrev pub has_table : List ℕ → List Heading → List Item → Bool
  has_table name headings items = list_any (is_headed name) headings || list_any (is_top name) items

  -- the limits of staxes, or a word of a step that callers alone have
  abbrev pub is_of_callers : Item → Bool
  is_of_callers item =
      let key = name_between text item.key in
      bytes_eq key (codes "staxes") || (bytes_eq key (codes "do") && is_some (own_keys (name_between text item.value)))

  -- callbacks, also misspelt
  abbrev pub has_callbacks : List Heading → List Item → Bool
  has_callbacks headings items = has_table (codes "callback") headings items || has_table (codes "callbacks") headings items

  -- steps that are set up, also misspelt, or what is asked
  abbrev pub has_orders : List Heading → List Item → Bool
  has_orders headings items =
      has_table (codes "setup") headings items || (has_table (codes "setups") headings items || has_table (codes "ask") headings items)

  -- what the orders of callers' steps alone have: `lasts` of a step, or a wrong step
  abbrev pub is_lasts : Item → Bool
  is_lasts item = bytes_eq (name_between text item.key) (codes "lasts")

  abbrev pub has_steps : List Heading → List Item → Bool
  has_steps headings items = has_table (codes "what_if") headings items || list_any is_lasts items

  abbrev pub kind_in : List Heading → List Item → TextKind
  kind_in headings items =
      if has_callbacks headings items then Bank
      else if has_orders headings items then Orders
      else if list_any is_of_callers items then Callers
      else Scenario

  abbrev pub checked_in : List Heading → List Item → TextKind
  checked_in headings items = checked_as (kind_in headings items) (has_steps headings items)

-- rule: Headings and keys give a text's kind: a callback makes a bank; set-up steps or what is asked a text for orders;
--   staxes, or a word that only callers have, a text of callers; else it is a scenario. A text of callers with `lasts`
--   or `[what_if]` is checked as one for orders.
--   also: Kinds.checked_kind
--   clauses: kind_of; checked_kind
--   rows: nothing_is_told_of_texts_without_fault; texts_of_steps_are_checked_as_such
-- of which kind a text is
unfoldable pub kind_of : List ℕ → TextKind
kind_of text = kind_in text (text_headings text) (text_keys text)

-- as which kind its faults are looked for
unfoldable pub checked_kind : List ℕ → TextKind
checked_kind text = checked_in text (text_headings text) (text_keys text)
