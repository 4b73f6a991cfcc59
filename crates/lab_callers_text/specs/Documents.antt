-- A document of callers, and the document of a scenario that is read for it.
use Rattle.std.specs.Prelude.{ℕ, List, [], ◌∷◌, codes, ◌^◌, Bool, true, ◌&&◌, is_some, if◌then◌else◌, Option, Some, None, option_map, option_and_then, pos, string_bytes}
use Rattle.std.specs.Option.{option_map_or, unwrap_or}
use Rattle.toml.specs.Data.{Data, string, integer, array, table, Items, no_items, item, Members, no_members, get_member, as_array, as_table}
use Rattle.toml.specs.View.{items_of}
use Rattle.lab_callers_text.specs.Names.{pass_named}
use Rattle.lab_callers_text.specs.Tables.{with_value, without}
use Rattle.lab_callers_text.specs.StepWords.{name_key, number_key, own_word, stand_in}
use Rattle.lab_callers_text.specs.declared.marks.Mark.{Mark}
use Rattle.lab_callers_text.specs.declared.step_words.OwnWord.{OwnWord}
use Rattle.evl_scenario.specs.Tables.{all_given, list_of, text_at, value_or}
use Rattle.evl_scenario.specs.Values.{number_below}

-- ---- steps

-- the word of a step's table, where it isn't that of a call
abbrev pub word_in : Members → Option OwnWord
word_in step = option_and_then own_word (text_at (codes "do") step)

-- a word, and the name of a pass with it
abbrev pub marked_word : Option OwnWord → Members → Option (Option (OwnWord × Option (List ℕ)))
marked_word None step = Some None
marked_word (Some word) step = option_map (λ name. Some (word, name)) (pass_named (name_key word) step)

-- what a step says beside the call of a scenario that is read for it: nothing where it is such a call itself
abbrev pub mark_in : Data → Option (Option (OwnWord × Option (List ℕ)))
mark_in value = option_map_or (λ step. marked_word (word_in step) step) (as_table value) (Some None)

-- without the key of a name, if there is one
abbrev pub unnamed : Option (List ℕ) → Members → Members
unnamed None step = step
unnamed (Some key) step = without key step

-- with the number at this key as that of a semaphore; another semaphore may not stand there
abbrev pub moved_member : List ℕ → Members → Option Members
moved_member key step =
    if is_some (get_member (codes "sem") step) then None
    else option_map (λ number. with_value (codes "sem") number (without key step)) (get_member key step)

abbrev pub numbered_member : Option (List ℕ) → Members → Option Members
numbered_member None step = Some step
numbered_member (Some key) step = moved_member key step

-- the table of a scenario's step with the other keys of a word
abbrev pub table_with : Option OwnWord → Members → Option Members
table_with None step = Some step
table_with (Some word) step = option_map (with_value (codes "do") (string (stand_in word))) (numbered_member (number_key word) (unnamed (name_key word) step))

-- the step of a scenario that is read for a step: itself where it has no word of a caller
abbrev pub step_as : Data → Option Data
step_as value = option_map_or (λ step. option_map table (table_with (word_in step) step)) (as_table value) (Some value)

-- it can be read so; and what is read for any step: where it can't, an empty table, which is no step
abbrev pub is_put : Data → Bool
is_put value = is_some (mark_in value) && is_some (step_as value)

abbrev pub put_as : Data → Data
put_as value = if is_put value then unwrap_or (step_as value) (table no_members) else table no_members

-- the word and the name of a mark
abbrev pub mark_view : Mark → OwnWord × Option (List ℕ)
mark_view mark = (mark.word, option_map string_bytes mark.name)

-- ---- documents

-- the limit of a stax
abbrev pub limit_from : Data → Option ℕ
limit_from (integer (pos n)) = number_below (2 ^ 16) (Some n)
limit_from _ = None

-- the limits of the staxes of a board
abbrev pub limits_in : Members → Option (List ℕ)
limits_in board = list_of limit_from 16 (get_member (codes "staxes") board)

abbrev pub staxes_of : Data → Option (List ℕ)
staxes_of value = option_and_then limits_in (as_table value)

-- a board without them
abbrev pub plain_board : Data → Option Data
plain_board value = option_map (λ board. table (without (codes "staxes") board)) (as_table value)

-- the steps of a document, none where it has no such key
abbrev pub items_in : Members → Option Items
items_in document = value_or as_array no_items (get_member (codes "step") document)

-- the limits of a document's staxes
abbrev pub staxes_in : Members → Option (List ℕ)
staxes_in document = option_and_then staxes_of (get_member (codes "board") document)

-- what its steps say, and the steps of a scenario that are read for them
abbrev pub marks_in : Members → Option (List (Option (OwnWord × Option (List ℕ))))
marks_in document = option_and_then (all_given mark_in) (items_in document)

abbrev pub steps_in : Members → Option (List Data)
steps_in document = option_and_then (all_given step_as) (items_in document)

-- a document without a board, with this one and with these steps in place of its own
abbrev pub with_parts : Members → Data → List Data → Members
with_parts document board steps = with_value (codes "step") (array (items_of steps)) (with_value (codes "board") board (without (codes "step") document))

-- the document of a scenario that is read for a document: the board without its staxes, and the steps as those of a scenario
abbrev pub scenario_in : Members → Option Members
scenario_in document =
    option_and_then (λ board. option_map (with_parts (without (codes "board") document) board) (steps_in document))
    (option_and_then plain_board (get_member (codes "board") document))

-- ---- documents with steps that can't be read

-- each step can be
abbrev pub all_put : Items → Bool
all_put no_items = true
all_put (item value rest) = is_put value && all_put rest

-- what is read for each
abbrev pub put_list : Items → List Data
put_list no_items = []
put_list (item value rest) = put_as value ∷ put_list rest

-- the document that is read for any that has a table of a board and a list of steps
abbrev pub read_for : Members → Option Members
read_for document =
    option_and_then (λ board. option_map (λ steps. with_parts (without (codes "board") document) board (put_list steps)) (items_in document))
    (option_and_then plain_board (get_member (codes "board") document))
