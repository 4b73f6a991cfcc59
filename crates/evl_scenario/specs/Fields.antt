-- How the values at the keys of a step are read: a value by its kind, and the values of a table at the keys of a form.
use Rattle.std.specs.Prelude.{ℕ, List, [], ◌∷◌, Option, Some, None, option_map, option_and_then}
use Rattle.toml.specs.Data.{Data, Members, get_member}
use Rattle.evl_base.specs.Fields.{Value, Key, Values}
use Rattle.evl_base.specs.declared.fields.Kind.{Kind}
use Rattle.evl_base.specs.declared.fields.Kind.TheVariants as kind
use Rattle.evl_scenario.specs.Policies.{policy_from}
use Rattle.evl_scenario.specs.Tables.{value_at, value_or}
use Rattle.evl_scenario.specs.Takes.{take_from}
use Rattle.evl_scenario.specs.Transfers.{bytes_from, way_from}
use Rattle.evl_scenario.specs.Values.{number_from, word_from, half_word_from, byte_from, stage_from, truth_from, until_from}

-- the value that a TOML value means where this kind is wanted
abbrev pub value_from : (kind : Kind) → Data → Option (Value kind)
value_from kind.Byte = byte_from
value_from kind.Half = half_word_from
value_from kind.Word = word_from
value_from kind.Number = number_from
value_from kind.Stage = stage_from
value_from kind.Policy = policy_from
value_from kind.Take = take_from
value_from kind.Way = way_from
value_from kind.Bytes = bytes_from
value_from kind.Until = until_from
value_from kind.Truth = truth_from

abbrev pub value_given : {A : Type 0} → (Data → Option A) → List ℕ → Option A → Members → Option A
value_given gives name None table = value_at gives name table
value_given gives name (Some default) table = value_or gives default (get_member name table)

-- the values of a table at these keys
abbrev pub values_of : (keys : List Key) → Members → Option (Values keys)
values_of [] table = Some tt
values_of (key ∷ keys) table =
    option_and_then (λ value. option_map (λ values. (value, values)) (values_of keys table)) (value_given (value_from key.kind) key.name key.default table)
