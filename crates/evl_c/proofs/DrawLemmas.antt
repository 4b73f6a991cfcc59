-- C's buffer where nothing is drawn.
use Rattle.std.proofs.Common.{◌≡◌, ℕ, List, refl}
use Rattle.evl_c.specs.Draws.{shown}
use Rattle.evl_c.specs.Pictures.{failed}
use Rattle.evl_c.specs.declared.pictures.Undrawn.{Undrawn}
use Rattle.evl_c.specs.declared.pictures.Undrawn.TheVariants.{Text, Neither, Beyond, Memory}

pub nothing_shown : (why : Undrawn) (start : ℕ) (room : List ℕ) → room ≡ shown (failed why) start room
nothing_shown Text start room = refl
nothing_shown (Neither line e) start room = refl
nothing_shown (Beyond pages) start room = refl
nothing_shown Memory start room = refl
