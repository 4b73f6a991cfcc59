use Rattle.std.proofs.Common.{ap, ◌∙◌, arith, map}
use Rattle.evl_words.specs.GateCalls.{SeatState}
use Rattle.evl_core.specs.words.Homes.{stax_home}
use Rattle.evl_machine.specs.stax_locks.StaxSeats.{stax_passes}
use Rattle.evl_core.proofs.words.SeatLists.{count-room, counted-set, map-kept}
use Rattle.evl_machine.proofs.stax_locks.StaxLaws.{found, home_kept, few_passes, passes_of, byte_passes, left_passes, left_stax}
use Rattle.evl_machine.proofs.elements.gates.Gates.unlock.Goals as goal

pub leave-result-requires : goal.leave-result-requires
leave-result-requires g c = record { mine = (found c.seats.inside.seats.items _ c.self.inside.gates.items _ c.from-place.result c.index_mut.result.now c.index.result.now c.seats.view_is c.self.view_is c.requires.homes (omega (arith, c.if-place-len.false, c.len.ensures, c.self.inside.gates.ok.0)) c.index_mut.ensures.value c.index.ensures).1 }

pub invariant_of-seats : goal.invariant_of-seats
invariant_of-seats g c =
    let there = (found c.seats.inside.seats.items _ c.self.inside.gates.items _ c.from-place.result c.index_mut.result.now c.index.result.now c.seats.view_is c.self.view_is c.requires.homes (omega (arith, c.if-place-len.false, c.len.ensures, c.self.inside.gates.ok.0)) c.index_mut.ensures.value c.index.ensures).0 in
    let room = count-room (λ (s : SeatState). s.gate.0) stax_passes c.seats.inside.seats.items c.seats.inside.held c.from-place.result c.index_mut.result.now c.seats.invariant there in
    let gave = c.from.ensures ∙ byte_passes c.is_ok.result ∙ ap passes_of c.is_ok.ensures.value in
    let less = left_passes c.args.pass c.index_mut.result.now c.leave-result.new.seat c.leave-result.result c.leave-result.ensures.left in
    counted-set (λ (s : SeatState). s.gate.0) stax_passes c.seats.inside.seats.items c.seats.inside.held c.from-place.result c.index_mut.result.now _ c.leave-result.new.seat c.seats.invariant there (ap (λ g. g.0) c.leave-result.ensures.seat.gate) (few_passes c.leave-result.new.seat) (omega (arith, room.0, gave, less))

pub returns-clause-homes : goal.returns-clause-homes
returns-clause-homes g c =
    let there = (found c.seats.inside.seats.items _ c.self.inside.gates.items _ c.from-place.result c.index_mut.result.now c.index.result.now c.seats.view_is c.self.view_is c.requires.homes (omega (arith, c.if-place-len.false, c.len.ensures, c.self.inside.gates.ok.0)) c.index_mut.ensures.value c.index.ensures).0 in
    map-kept stax_home c.seats.inside.seats.items c.from-place.result c.index_mut.result.now c.leave-result.new.seat there (home_kept c.index_mut.result.now c.leave-result.new.seat c.leave-result.ensures.seat) ∙ ap (map stax_home) c.seats.view_is

pub returns-clause-numbers : goal.returns-clause-numbers
returns-clause-numbers g c =
    let there = (found c.seats.inside.seats.items _ c.self.inside.gates.items _ c.from-place.result c.index_mut.result.now c.index.result.now c.seats.view_is c.self.view_is c.requires.homes (omega (arith, c.if-place-len.false, c.len.ensures, c.self.inside.gates.ok.0)) c.index_mut.ensures.value c.index.ensures).0 in
    map-kept (λ (s : SeatState). s.number) c.seats.inside.seats.items c.from-place.result c.index_mut.result.now c.leave-result.new.seat there c.leave-result.ensures.seat.number ∙ ap (map (λ (s : SeatState). s.number)) c.seats.view_is

pub returns-clause-left : goal.returns-clause-left
returns-clause-left g c =
    let there = (found c.seats.inside.seats.items _ c.self.inside.gates.items _ c.from-place.result c.index_mut.result.now c.index.result.now c.seats.view_is c.self.view_is c.requires.homes (omega (arith, c.if-place-len.false, c.len.ensures, c.self.inside.gates.ok.0)) c.index_mut.ensures.value c.index.ensures).0 in
    let place = c.from-place.ensures ∙ ap (λ g. g.0) c.gate.ensures in
    rw (← c.seats.view_is, place) (left_stax c.args.pass c.index_mut.result.now c.leave-result.new.seat c.seats.inside.seats.items (rw (← place) there) c.leave-result.result c.leave-result.ensures.left)
