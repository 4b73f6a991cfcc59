use Rattle.std.proofs.Common.{◌≡◌, ap, ◌∙◌, arith}
use Rattle.evl_words.specs.declared.mutex.place.MutexPlace.{MutexPlace}
use Rattle.evl_core.specs.words.MutexPlaces.{deepened, less, place_passes}
use Rattle.evl_core.proofs.words.MutexPlaces.{place_there}
use Rattle.evl_core.proofs.words.SeatLists.{at-seat, count-room, counted-set, some-within}
use Rattle.evl_core.proofs.mutex_places.MutexPlaces.spend.Goals as goal

pub recounted-self-inside-requires : goal.recounted-self-inside-requires
recounted-self-inside-requires g c =
    let there = place_there c.self.inside.places.items _ c.from.result _ c.index_mut-place.result.now c.self.view_is (c.from.ensures ∙ ap (λ m. m.0) c.mutex.ensures) (some-within _ _ _ c.requires.held) c.index_mut-place.ensures.value in
    let room = count-room (λ (p : MutexPlace). p.mutex.0) place_passes c.self.inside.places.items c.self.inside.passes c.from.result c.index_mut-place.result.now c.self.invariant there in
    record { room = (omega (arith, room.0, c.depth-before.ensures), room.1) }

pub invariant_of-self : goal.invariant_of-self
invariant_of-self g c =
    let there = place_there c.self.inside.places.items _ c.from.result _ c.index_mut-place.result.now c.self.view_is (c.from.ensures ∙ ap (λ m. m.0) c.mutex.ensures) (some-within _ _ _ c.requires.held) c.index_mut-place.ensures.value in
    counted-set (λ (p : MutexPlace). p.mutex.0) place_passes c.self.inside.places.items c.self.inside.passes c.from.result c.index_mut-place.result.now _ c.spend.new.self c.self.invariant there (ap (λ (p : MutexPlace). p.mutex.0) c.spend.ensures) (omega (arith, c.depth.ensures, c.depth.type_inv)) (omega (arith, c.recounted-self-inside.ensures.count, c.depth-before.ensures, c.depth.ensures))

pub returns : goal.returns
returns g c =
    let there = place_there c.self.inside.places.items _ c.from.result _ c.index_mut-place.result.now c.self.view_is (c.from.ensures ∙ ap (λ m. m.0) c.mutex.ensures) (some-within _ _ _ c.requires.held) c.index_mut-place.ensures.value in
    rw (← c.self.view_is, ← (c.from.ensures ∙ ap (λ m. m.0) c.mutex.ensures)) (record { spent = at-seat (λ (was is : MutexPlace). is ≡ deepened less was) c.self.inside.places.items c.from.result c.index_mut-place.result.now c.spend.new.self there c.spend.ensures })
