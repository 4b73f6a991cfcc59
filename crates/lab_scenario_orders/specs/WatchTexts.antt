-- The questions about each moment, as they are written.
use Rattle.std.specs.Prelude.{ℕ, ◌++◌, List, [], codes, map, string_bytes, Option, Some, None, option_and_then, option_map}
use Rattle.toml.specs.Data.{Data, Members, as_array, as_str, get_member}
use Rattle.evl_scenario.specs.Tables.{all_given}
use Rattle.lab_scenario_orders.specs.declared.watches.Watch.{Watch}
use Rattle.lab_scenario_orders.specs.declared.watches.When.{When}
use Rattle.lab_scenario_orders.specs.declared.watches.When.TheVariants.{Never, Sometimes, Always}

-- when, and the text of the facts
abbrev pub watch_text : Watch → When × List ℕ
watch_text watch = (watch.when, string_bytes watch.text)

-- the key at which texts stand
abbrev pub when_key : When → List ℕ
when_key Never = codes "never_state"
when_key Sometimes = codes "sometimes"
when_key Always = codes "always"

-- a list of texts
abbrev pub texts_in : Option Data → Option (List (List ℕ))
texts_in None = Some []
texts_in (Some value) = option_and_then (all_given as_str) (as_array value)

-- the texts at a key
abbrev pub watched_at : When → Members → Option (List (When × List ℕ))
watched_at when ms = option_map (map (λ text. (when, text))) (texts_in (get_member (when_key when) ms))

-- the texts at all three
abbrev pub watched_in : Members → Option (List (When × List ℕ))
watched_in ms =
    option_and_then (λ never. option_and_then (λ sometimes. option_map (λ always. never ++ (sometimes ++ always)) (watched_at Always ms)) (watched_at Sometimes ms)) (watched_at Never ms)
