-- The values at the keys of a TOML table.
use Rattle.std.specs.Prelude.{ℕ, List, [], ◌∷◌, length, Bool, true, ◌&&◌, nat_le, if◌then◌else◌, Option, Some, None, option_map, option_and_then}
use Rattle.std.specs.List.{list_any}
use Rattle.std.specs.Str.{bytes_eq}
use Rattle.toml.specs.Data.{Data, Members, no_members, member, Items, no_items, item, as_str, as_array, get_member}

-- the value at a key that is required
abbrev pub value_at : {A : Type 0} → (Data → Option A) → List ℕ → Members → Option A
value_at gives key table = option_and_then gives (get_member key table)

-- the value at a key, or this one where nothing is there
abbrev pub value_or : {A : Type 0} → (Data → Option A) → A → Option Data → Option A
value_or gives default None = Some default
value_or gives default (Some value) = gives value

-- the text at a key that is required
abbrev pub text_at : List ℕ → Members → Option (List ℕ)
text_at key table = option_and_then as_str (get_member key table)

-- what the items mean, where each means something
abbrev pub all_given : {A : Type 0} → (Data → Option A) → Items → Option (List A)
all_given gives no_items = Some []
all_given gives (item value rest) = option_and_then (λ x. option_map (λ xs. x ∷ xs) (all_given gives rest)) (gives value)

-- at most so many
abbrev pub at_most_items : {A : Type 0} → ℕ → List A → Option (List A)
at_most_items most xs = if nat_le (length xs) most then Some xs else None

-- the list at a key, which is empty where nothing is there
abbrev pub list_of : {A : Type 0} → (Data → Option A) → ℕ → Option Data → Option (List A)
list_of gives most None = Some []
list_of gives most (Some value) = option_and_then (at_most_items most) (option_and_then (all_given gives) (as_array value))

-- each key of a table is among these
abbrev pub has_only : List (List ℕ) → Members → Bool
has_only known no_members = true
has_only known (member key value rest) = list_any (bytes_eq key) known && has_only known rest
