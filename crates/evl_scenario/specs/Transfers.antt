-- The texts of a way through a cross-buffer and of the bytes of a transfer in a scenario.
use Rattle.std.specs.Prelude.{ℕ, codes, List, length, nat_lt, if◌then◌else◌, Option, Some, None, option_map, option_and_then}
use Rattle.std.specs.Str.{bytes_eq}
use Rattle.std.specs.Result.{result_ok}
use Rattle.arrayvec.specs.ArrayVec.{ArrayVec}
use Rattle.hex.specs.Hex.{decode_of}
use Rattle.toml.specs.Data.{Data, as_str}
use Rattle.evl_base.specs.declared.way.Way.{Way}
use Rattle.evl_base.specs.declared.way.Way.TheVariants.{In, Out}

abbrev pub way_of : List ℕ → Option Way
way_of text =
    if bytes_eq text (codes "in") then Some In
    else if bytes_eq text (codes "out") then Some Out
    else None

abbrev pub way_from : Data → Option Way
way_from value = option_and_then way_of (as_str value)

-- rule: Bytes are a text of 0 to 512 hexadecimal digits of either case, two a byte; `-` is refused.
--   rows: bytes
-- two hexadecimal digits for each byte, of either case; at most 256 bytes
abbrev pub bytes_of : List ℕ → Option (ArrayVec ℕ)
bytes_of text = if nat_lt 512 (length text) then None else option_map (λ bytes. record { items = bytes }) (result_ok (decode_of text))

abbrev pub bytes_from : Data → Option (ArrayVec ℕ)
bytes_from value = option_and_then bytes_of (as_str value)
