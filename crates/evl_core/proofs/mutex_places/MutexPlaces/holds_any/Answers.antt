use Rattle.std.proofs.Common.{refl, ap, ◌∙◌}
use Rattle.std.specs.Prelude.{nat_lt}
use Rattle.evl_core.specs.words.MutexPlaces.{holds_place, place_passes}
use Rattle.evl_core.proofs.words.SeatLists.{some-counted}
use Rattle.evl_core.proofs.mutex_places.MutexPlaces.holds_any.Goals as goal

pub returns : goal.returns
returns g c = record { holds = ap (nat_lt 0) c.self.invariant.counted ∙ some-counted place_passes (λ p. nat_lt 0 p.depth) (λ p. refl) c.self.inside.places.items ∙ ap holds_place c.self.view_is }
