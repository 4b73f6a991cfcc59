use Rattle.std.proofs.Common.{ap, ◌∙◌, arith, map}
use Rattle.evl_words.specs.GateCalls.{SeatState}
use Rattle.evl_core.specs.words.Homes.{stax_home}
use Rattle.evl_machine.specs.stax_locks.StaxSeats.{stax_passes}
use Rattle.evl_machine.specs.stax_locks.StaxWaits.{Marks}
use Rattle.evl_core.proofs.words.SeatLists.{at-seat, counted-set, map-kept}
use Rattle.evl_machine.proofs.stax_locks.StaxLaws.{few_passes, home_kept}
use Rattle.evl_machine.proofs.stax_locks.StaxWaitLaws.{marks_passes, seat_there}
use Rattle.evl_machine.proofs.elements.gates.Gates.claim.Goals as goal

pub claim-requires : goal.claim-requires
claim-requires g c = (seat_there c.seats.inside.seats.items _ c.self.inside.gates.items _ c.from-place.result c.index_mut.result.now c.index.result.now c.seats.view_is c.self.view_is c.requires.homes (omega (arith, c.requires.there, c.from-place.ensures)) c.index_mut.ensures.value c.index.ensures).1

pub invariant_of-seats : goal.invariant_of-seats
invariant_of-seats g c =
    let there = (seat_there c.seats.inside.seats.items _ c.self.inside.gates.items _ c.from-place.result c.index_mut.result.now c.index.result.now c.seats.view_is c.self.view_is c.requires.homes (omega (arith, c.requires.there, c.from-place.ensures)) c.index_mut.ensures.value c.index.ensures).0 in
    let same = marks_passes c.index_mut.result.now c.claim.new.seat (c.claim.ensures.event, c.claim.ensures.entry) in
    counted-set (λ (s : SeatState). s.gate.0) stax_passes c.seats.inside.seats.items c.seats.inside.held c.from-place.result c.index_mut.result.now _ c.claim.new.seat c.seats.invariant there (ap (λ g. g.0) c.claim.ensures.seat.gate) (few_passes c.claim.new.seat) (omega (arith, same))

pub returns-clause-homes : goal.returns-clause-homes
returns-clause-homes g c =
    let there = (seat_there c.seats.inside.seats.items _ c.self.inside.gates.items _ c.from-place.result c.index_mut.result.now c.index.result.now c.seats.view_is c.self.view_is c.requires.homes (omega (arith, c.requires.there, c.from-place.ensures)) c.index_mut.ensures.value c.index.ensures).0 in
    map-kept stax_home c.seats.inside.seats.items c.from-place.result c.index_mut.result.now c.claim.new.seat there (home_kept c.index_mut.result.now c.claim.new.seat c.claim.ensures.seat) ∙ ap (map stax_home) c.seats.view_is

pub returns-clause-numbers : goal.returns-clause-numbers
returns-clause-numbers g c =
    let there = (seat_there c.seats.inside.seats.items _ c.self.inside.gates.items _ c.from-place.result c.index_mut.result.now c.index.result.now c.seats.view_is c.self.view_is c.requires.homes (omega (arith, c.requires.there, c.from-place.ensures)) c.index_mut.ensures.value c.index.ensures).0 in
    map-kept (λ (s : SeatState). s.number) c.seats.inside.seats.items c.from-place.result c.index_mut.result.now c.claim.new.seat there c.claim.ensures.seat.number ∙ ap (map (λ (s : SeatState). s.number)) c.seats.view_is

pub returns-clause-marked : goal.returns-clause-marked
returns-clause-marked g c =
    let there = (seat_there c.seats.inside.seats.items _ c.self.inside.gates.items _ c.from-place.result c.index_mut.result.now c.index.result.now c.seats.view_is c.self.view_is c.requires.homes (omega (arith, c.requires.there, c.from-place.ensures)) c.index_mut.ensures.value c.index.ensures).0 in
    rw (← c.seats.view_is, ← c.from-place.ensures) (at-seat Marks c.seats.inside.seats.items c.from-place.result c.index_mut.result.now c.claim.new.seat there (c.claim.ensures.event, c.claim.ensures.entry))
