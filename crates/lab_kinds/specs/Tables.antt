-- The faults of a table whose keys are known.
use Rattle.std.specs.Prelude.{ℕ, Bool, ◌||◌, List, [], ◌∷◌, ◌++◌, codes, flat_map, if◌then◌else◌, is_some}
use Rattle.std.specs.Str.{bytes_eq}
use Rattle.evl_scenario.specs.declared.faults.Fault.{Fault}
use Rattle.lab_faults.specs.Faults.{may_lack}
use Rattle.lab_faults.specs.Steps.{is_among, item_at, name_between, text_between}
use Rattle.lab_faults.specs.Told.{Told, told_at}
use Rattle.lab_faults.specs.Wants.{hint_text, names_text}
use Rattle.lab_faults.specs.declared.items.Item.{Item}
use Rattle.lab_kinds.specs.Words.{fits_at, wanted_at}

-- a key that the table doesn't have
unfoldable pub unknown_text : List ℕ → List (List ℕ) → List ℕ → List ℕ
unknown_text place keys key =
    place ++ (codes "no key \"" ++ (key ++ (codes "\"" ++ (hint_text key keys ++ (codes " (keys: " ++ (names_text keys ++ codes ")"))))))

-- a value that can't stand at its key
unfoldable pub misfit_text : List ℕ → List ℕ → List ℕ → List ℕ
misfit_text place key value = place ++ (key ++ (codes " = " ++ (value ++ (codes ": " ++ (wanted_at key ++ codes " is wanted")))))

-- a key that is missing
unfoldable pub missing_text : List ℕ → List ℕ → List ℕ
missing_text place key = place ++ (codes "a key \"" ++ (key ++ (codes "\" is needed: " ++ (wanted_at key ++ codes " is wanted there"))))

-- what is said begins with the table's place
module _ (text : List ℕ) (fault : Fault) (place : List ℕ) where
  -- a key is one of these, and its value can stand there
  unfoldable pub field_faults : List (List ℕ) → Item → List Told
  field_faults keys item =
      let key = name_between text item.key in
      let value = text_between text item.value in
      if is_among keys key then (if fits_at key value then [] else told_at text fault item.value.0 (misfit_text place key value) ∷ [])
      else told_at text fault item.key.0 (unknown_text place keys key) ∷ []

  -- a key that may not be left out is there
  unfoldable pub missing_faults : List Item → ℕ → List ℕ → List Told
  missing_faults items at key = if may_lack key || is_some (item_at text items key) then [] else told_at text fault at (missing_text place key) ∷ []
