-- The faults of a board, and of what is beside it, in the order in which they are reported.
use Rattle.std.specs.Prelude.{ℕ, nat_eq, Bool, true, false, not, ◌&&◌, ◌||◌, List, [], ◌∷◌, ◌++◌, codes, flat_map, if◌then◌else◌}
use Rattle.std.specs.List.{list_any, starts_with}
use Rattle.std.specs.Str.{bytes_eq}
use Rattle.evl_scenario.specs.declared.faults.Fault.TheVariants.{Board as OfBoard}
use Rattle.lab_faults.specs.Steps.{fits_board, fits_limit, is_among, name_between, text_between}
use Rattle.lab_faults.specs.Told.{Told, told_at}
use Rattle.lab_faults.specs.Wants.{board_keys, board_wanted_text, hint_text, opening_keys}
use Rattle.lab_faults.specs.declared.items.Heading.{Heading}
use Rattle.lab_faults.specs.declared.items.Item.{Item}
use Rattle.lab_faults.specs.declared.items.Section.{Section}
use Rattle.lab_faults.specs.declared.items.Section.TheVariants.{Opening, Board, Other}

-- ---- the words

unfoldable pub no_table_text : List ℕ → List ℕ
no_table_text name = codes "there is no table \"" ++ (name ++ (codes "\"" ++ (hint_text name opening_keys ++ codes " (tables: board, step)")))

-- a heading that a scenario doesn't have
unfoldable pub heading_text : List ℕ → List ℕ
heading_text name =
    if bytes_eq name (codes "step") then codes "a step is headed [[step]]"
    else if bytes_eq name (codes "board") then codes "the board is headed [board]"
    else if bytes_eq name (codes "setup") || bytes_eq name (codes "setups") then codes "a step that is set up is headed [[setup]], on a line of its own"
    else if bytes_eq name (codes "ask") then codes "what is asked is headed [ask], on a line of its own"
    else no_table_text name

-- of a key that is above the board it is said so, of any other one that a key of the board is near
abbrev pub aside_text : List ℕ → List ℕ
aside_text key = if bytes_eq key (codes "limit") || bytes_eq key (codes "step") then codes "; it stands above [board]" else hint_text key board_keys

-- a key that the board doesn't have
unfoldable pub no_board_key_text : List ℕ → List ℕ
no_board_key_text key =
    codes "the board has no key \"" ++ (key ++ (codes "\"" ++ (aside_text key ++ codes " (keys: threads, sems, flags, xbufs, mutexes, groups)")))

-- a key of no table that may be beside the board
unfoldable pub unknown_key_text : List ℕ → List ℕ
unknown_key_text key = codes "there is no key \"" ++ (key ++ (codes "\"" ++ (hint_text key opening_keys ++ codes " (keys: limit, board, step)")))

-- a table of a text for orders, which is headed
abbrev pub is_of_orders : List ℕ → Bool
is_of_orders key = bytes_eq key (codes "setup") || (bytes_eq key (codes "setups") || bytes_eq key (codes "ask"))

-- a key that isn't beside the board
unfoldable pub no_key_text : List ℕ → List ℕ
no_key_text key = if is_of_orders key then heading_text key else unknown_key_text key

-- a value that can't be at its key
unfoldable pub value_text : List ℕ → List ℕ → List ℕ
value_text key value = key ++ (codes " = " ++ (value ++ (codes ": " ++ (board_wanted_text key ++ codes " is wanted"))))

-- no number of threads
unfoldable pub no_threads_text : List ℕ
no_threads_text = codes "the board needs a key \"threads\": " ++ (board_wanted_text (codes "threads") ++ codes " is wanted there")

-- ---- the faults

abbrev pub is_of_board : Section → Bool
is_of_board Board = true
is_of_board _ = false

abbrev pub is_other : Section → Bool
is_other Other = true
is_other _ = false

abbrev pub first_heading : List Heading → ℕ
first_heading [] = 0
first_heading (heading ∷ rest) = heading.name.0

-- a key that may be beside the board: it may name one in it
abbrev pub may_open : List ℕ → Bool
may_open key = is_among opening_keys key || starts_with nat_eq key (codes "board.")

abbrev pub fits_opening : List ℕ → List ℕ → Bool
fits_opening key value = not (bytes_eq key (codes "limit")) || fits_limit value

module _ (text : List ℕ) where
  -- what is said of the board at a byte
  abbrev pub board_told : ℕ → List ℕ → Told
  board_told at words = told_at text OfBoard at words

  unfoldable pub heading_faults : Heading → List Told
  heading_faults heading =
      if is_other heading.section then board_told heading.name.0 (heading_text (name_between text heading.name)) ∷ [] else []

  unfoldable pub value_faults : Item → Bool → List Told
  value_faults item fits =
      if fits then [] else board_told item.value.0 (value_text (name_between text item.key) (text_between text item.value)) ∷ []

  -- of a key in the board
  unfoldable pub board_item_faults : Item → List Told
  board_item_faults item =
      let key = name_between text item.key in
      if is_among board_keys key then value_faults item (fits_board key (text_between text item.value))
      else board_told item.key.0 (no_board_key_text key) ∷ []

  -- of a key beside it
  unfoldable pub opening_item_faults : Item → List Told
  opening_item_faults item =
      let key = name_between text item.key in
      if may_open key then value_faults item (fits_opening key (text_between text item.value))
      else board_told item.key.0 (no_key_text key) ∷ []

  abbrev pub faults_within : Item → Section → List Told
  faults_within item Board = board_item_faults item
  faults_within item Opening = opening_item_faults item
  faults_within item _ = []

  abbrev pub item_faults : Item → List Told
  item_faults item = faults_within item item.section

  -- a key that says how many threads there are
  abbrev pub is_threads : Item → Bool
  is_threads item =
      let key = name_between text item.key in
      (is_of_board item.section && bytes_eq key (codes "threads")) || bytes_eq key (codes "board.threads")

  unfoldable pub threads_faults : List Heading → List Item → List Told
  threads_faults headings items = if list_any is_threads items then [] else board_told (first_heading headings) no_threads_text ∷ []

  -- of the headings, of the keys, and that one is missing
  unfoldable pub board_faults : List Heading → List Item → List Told
  board_faults headings items = flat_map heading_faults headings ++ (flat_map item_faults items ++ threads_faults headings items)
