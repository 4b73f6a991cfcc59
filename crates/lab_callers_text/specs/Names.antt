-- Names of passes.
use Rattle.std.specs.Prelude.{ℕ, List, length, Bool, ◌&&◌, ◌||◌, ◌==◌, if◌then◌else◌, Option, Some, None, option_map, option_and_then}
use Rattle.std.specs.Char.{is_ascii_alphanumeric}
use Rattle.std.specs.List.{list_all}
use Rattle.toml.specs.Data.{Members}
use Rattle.evl_base.specs.Limits.{is_within}
use Rattle.evl_scenario.specs.Tables.{text_at}

-- a letter, a digit, `_` or `-`
abbrev pub is_letter : ℕ → Bool
is_letter byte = is_ascii_alphanumeric byte || (byte == 95 || byte == 45)

-- 1 to 32 of these
abbrev pub is_name : List ℕ → Bool
is_name text = is_within 1 32 (length text) && list_all is_letter text

-- the text, if it's a name
abbrev pub as_name : List ℕ → Option (List ℕ)
as_name text = if is_name text then Some text else None

-- the name that is at a key
abbrev pub name_at : List ℕ → Members → Option (List ℕ)
name_at key table = option_and_then as_name (text_at key table)

-- the name of a word that has one at this key, or no name where it has no such key
abbrev pub pass_named : Option (List ℕ) → Members → Option (Option (List ℕ))
pass_named None table = Some None
pass_named (Some key) table = option_map Some (name_at key table)
