-- The text in a scenario of what is taken from a flag group: all bits, or a word and a mask with one space between them.
use Rattle.std.specs.Prelude.{ℕ, codes, ◌^◌, List, if◌then◌else◌, Option, Some, None, option_map, option_and_then}
use Rattle.std.specs.Str.{bytes_eq}
use Rattle.toml.specs.Data.{Data, as_str}
use Rattle.evl_base.specs.declared.take.Take.{Take}
use Rattle.evl_base.specs.declared.take.Take.TheVariants.{Any, Of, Exact}
use Rattle.evl_scenario.specs.Values.{text_number, number_below, around_space}

abbrev pub mask_of : List ℕ → Option ℕ
mask_of text = number_below (2 ^ 32) (text_number text)

abbrev pub take_named : List ℕ × List ℕ → Option Take
take_named (word, mask) =
    if bytes_eq word (codes "of") then option_map Of (mask_of mask)
    else if bytes_eq word (codes "exact") then option_map Exact (mask_of mask)
    else None

abbrev pub take_of : List ℕ → Option Take
take_of text = if bytes_eq text (codes "any") then Some Any else option_and_then take_named (around_space text)

abbrev pub take_from : Data → Option Take
take_from value = option_and_then take_of (as_str value)
