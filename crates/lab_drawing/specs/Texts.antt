-- Texts that are taken apart.
use Rattle.std.specs.Prelude.{ℕ, ◌^◌, nat_eq, nat_lt, ◌&&◌, List, [], ◌∷◌, length, drop, if◌then◌else◌, Option, Some, None, option_map}
use Rattle.std.specs.List.{starts_with}
use Rattle.std.specs.Option.{option_map_or, option_or}
use Rattle.std.specs.Str.{all_ascii_digits}
use Rattle.std.specs.Str.Parse.{digits_value, without_leading_plus}

-- what follows this front part of a text
unfoldable pub past_front : List ℕ → List ℕ → Option (List ℕ)
past_front front text = if starts_with nat_eq text front then Some (drop (length front) text) else None

-- what is before the first such part of a text, and what is after it
unfoldable pub around_part : List ℕ → List ℕ → Option (List ℕ × List ℕ)
around_part part [] = option_map (λ behind. ([], behind)) (past_front part [])
around_part part (c ∷ rest) =
    option_or (option_map (λ behind. ([], behind)) (past_front part (c ∷ rest))) (option_map (λ cut. (c ∷ cut.0, cut.1)) (around_part part rest))

-- what is before the first such part of a text, or the whole text where it has no such part
abbrev pub up_to : List ℕ → List ℕ → List ℕ
up_to part text = option_map_or (λ cut. cut.0) (around_part part text) text

-- the number of so many bits whose decimal digits a text is, with or without a plus before them
unfoldable pub number_in : ℕ → List ℕ → Option ℕ
number_in bits text =
    let digits = without_leading_plus text in
    let number = digits_value 10 digits in
    if nat_lt 0 (length digits) && all_ascii_digits digits && nat_lt number (2 ^ bits) then Some number else None
