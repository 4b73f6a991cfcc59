-- The list of refusals, and their numbers.
use Rattle.std.specs.Prelude.{◌≡◌, length, map}
use Rattle.std.proofs.Common.{refl}
use Rattle.std.specs.List.{range_with_len}
use Rattle.evl_base.specs.Refusal.{number_of, refusals}

-- each is at its number
pub in-order : map number_of refusals ≡ range_with_len 1 (length refusals)
in-order = refl
