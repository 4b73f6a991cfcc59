use Rattle.std.proofs.Common.{◌≡◌, ◌≢◌, ◌+◌, ap, arith}
use Rattle.evl_words.specs.declared.mutex.place.MutexPlace.{MutexPlace}
use Rattle.evl_core.specs.words.MutexPlaces.{deepened, place_passes}
use Rattle.evl_core.proofs.words.MutexPlaces.{held_by, place_there}
use Rattle.evl_core.proofs.words.SeatLists.{at-seat, count-room, counted-set, some-here, some-within}
use Rattle.evl_core.proofs.mutex_places.MutexPlaces.nest.Goals as goal

pub recounted-self-inside-requires : goal.recounted-self-inside-requires
recounted-self-inside-requires g c =
    let there = place_there c.self.inside.places.items _ c.from.result _ c.index_mut-place.result.now c.self.view_is c.from.ensures (some-within _ _ _ c.requires.there) c.index_mut-place.ensures.value in
    let room = count-room (λ (p : MutexPlace). p.mutex.0) place_passes c.self.inside.places.items c.self.inside.passes c.from.result c.index_mut-place.result.now c.self.invariant there in
    record { room = (omega (arith, room.0, c.depth-before.ensures), room.1) }

pub invariant_of-self : goal.invariant_of-self
invariant_of-self g c =
    let there = place_there c.self.inside.places.items _ c.from.result _ c.index_mut-place.result.now c.self.view_is c.from.ensures (some-within _ _ _ c.requires.there) c.index_mut-place.ensures.value in
    counted-set (λ (p : MutexPlace). p.mutex.0) place_passes c.self.inside.places.items c.self.inside.passes c.from.result c.index_mut-place.result.now _ c.nest-pass.new.self c.self.invariant there (ap (λ (p : MutexPlace). p.mutex.0) c.nest-pass.ensures.place) (omega (arith, c.depth.ensures, c.depth.type_inv)) (omega (arith, c.recounted-self-inside.ensures.count, c.depth-before.ensures, c.depth.ensures))

pub returns-clause-nested : goal.returns-clause-nested
returns-clause-nested g c =
    let there = place_there c.self.inside.places.items _ c.from.result _ c.index_mut-place.result.now c.self.view_is c.from.ensures (some-within _ _ _ c.requires.there) c.index_mut-place.ensures.value in
    rw (← c.self.view_is, ← c.from.ensures) (at-seat (λ (was is : MutexPlace). is ≡ deepened (λ d. d + 1) was) c.self.inside.places.items c.from.result c.index_mut-place.result.now c.nest-pass.new.self there c.nest-pass.ensures.place)

pub returns-clause-pass : goal.returns-clause-pass
returns-clause-pass g c =
    let there = place_there c.self.inside.places.items _ c.from.result _ c.index_mut-place.result.now c.self.view_is c.from.ensures (some-within _ _ _ c.requires.there) c.index_mut-place.ensures.value in
    rw (← c.self.view_is, ← c.from.ensures) (held_by _ c.self.inside.places.items c.from.result c.index_mut-place.result.now there c.nest-pass.ensures.pass)

pub nest-pass-requires : goal.nest-pass-requires
nest-pass-requires g c =
    let there = place_there c.self.inside.places.items _ c.from.result _ c.index_mut-place.result.now c.self.view_is c.from.ensures (some-within _ _ _ c.requires.there) c.index_mut-place.ensures.value in
    let few = c.self.invariant.bounded c.from.result c.index_mut-place.result.now there in
    let other = some-here (λ (p : MutexPlace). p.depth ≢ 255) _ _ _ _ c.index_mut-place.result.now c.self.view_is c.from.ensures there c.requires.there in
    omega (arith, few, other)
