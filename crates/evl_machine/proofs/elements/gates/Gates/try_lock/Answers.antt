use Rattle.std.proofs.Common.{ap, ◌∙◌, arith, map}
use Rattle.evl_words.specs.GateCalls.{SeatState}
use Rattle.evl_core.specs.words.Homes.{stax_home}
use Rattle.evl_machine.specs.stax_locks.StaxSeats.{stax_passes}
use Rattle.evl_core.proofs.words.SeatLists.{count-room, counted-set, map-kept}
use Rattle.evl_machine.proofs.stax_locks.StaxLaws.{found, home_kept, few_passes, passes_of, byte_passes, one_at_most, entered_passes, tried}
use Rattle.evl_machine.proofs.elements.gates.Gates.try_lock.Goals as goal

pub try_lock-result-requires : goal.try_lock-result-requires
try_lock-result-requires g c = (found c.seats.inside.seats.items _ c.self.inside.gates.items _ c.from-place.result c.index_mut.result.now c.index.result.now c.seats.view_is c.self.view_is c.requires.homes (omega (arith, c.if-place-len.false, c.len.ensures, c.self.inside.gates.ok.0)) c.index_mut.ensures.value c.index.ensures).1

pub overflow_add-seats : goal.overflow_add-seats
overflow_add-seats g c =
    let there = (found c.seats.inside.seats.items _ c.self.inside.gates.items _ c.from-place.result c.index_mut.result.now c.index.result.now c.seats.view_is c.self.view_is c.requires.homes (omega (arith, c.if-place-len.false, c.len.ensures, c.self.inside.gates.ok.0)) c.index_mut.ensures.value c.index.ensures).0 in
    let room = count-room (λ (s : SeatState). s.gate.0) stax_passes c.seats.inside.seats.items c.seats.inside.held c.from-place.result c.index_mut.result.now c.seats.invariant there in
    let one = one_at_most c.is_ok.result in omega (arith, room.1, c.from.ensures, one)

pub invariant_of-seats : goal.invariant_of-seats
invariant_of-seats g c =
    let there = (found c.seats.inside.seats.items _ c.self.inside.gates.items _ c.from-place.result c.index_mut.result.now c.index.result.now c.seats.view_is c.self.view_is c.requires.homes (omega (arith, c.if-place-len.false, c.len.ensures, c.self.inside.gates.ok.0)) c.index_mut.ensures.value c.index.ensures).0 in
    let gave = c.from.ensures ∙ byte_passes c.is_ok.result ∙ ap passes_of c.is_ok.ensures.value in
    let more = entered_passes c.index_mut.result.now c.args.stage c.try_lock-result.new.seat c.try_lock-result.result (c.try_lock-result.ensures.event, c.try_lock-result.ensures.ok, c.try_lock-result.ensures.err) in
    counted-set (λ (s : SeatState). s.gate.0) stax_passes c.seats.inside.seats.items c.seats.inside.held c.from-place.result c.index_mut.result.now _ c.try_lock-result.new.seat c.seats.invariant there (ap (λ g. g.0) c.try_lock-result.ensures.seat.gate) (few_passes c.try_lock-result.new.seat) (omega (arith, gave, more))

pub returns-clause-homes : goal.returns-clause-homes
returns-clause-homes g c =
    let there = (found c.seats.inside.seats.items _ c.self.inside.gates.items _ c.from-place.result c.index_mut.result.now c.index.result.now c.seats.view_is c.self.view_is c.requires.homes (omega (arith, c.if-place-len.false, c.len.ensures, c.self.inside.gates.ok.0)) c.index_mut.ensures.value c.index.ensures).0 in
    map-kept stax_home c.seats.inside.seats.items c.from-place.result c.index_mut.result.now c.try_lock-result.new.seat there (home_kept c.index_mut.result.now c.try_lock-result.new.seat c.try_lock-result.ensures.seat) ∙ ap (map stax_home) c.seats.view_is

pub returns-clause-numbers : goal.returns-clause-numbers
returns-clause-numbers g c =
    let there = (found c.seats.inside.seats.items _ c.self.inside.gates.items _ c.from-place.result c.index_mut.result.now c.index.result.now c.seats.view_is c.self.view_is c.requires.homes (omega (arith, c.if-place-len.false, c.len.ensures, c.self.inside.gates.ok.0)) c.index_mut.ensures.value c.index.ensures).0 in
    map-kept (λ (s : SeatState). s.number) c.seats.inside.seats.items c.from-place.result c.index_mut.result.now c.try_lock-result.new.seat there c.try_lock-result.ensures.seat.number ∙ ap (map (λ (s : SeatState). s.number)) c.seats.view_is

pub returns-clause-tried : goal.returns-clause-tried
returns-clause-tried g c =
    let there = (found c.seats.inside.seats.items _ c.self.inside.gates.items _ c.from-place.result c.index_mut.result.now c.index.result.now c.seats.view_is c.self.view_is c.requires.homes (omega (arith, c.if-place-len.false, c.len.ensures, c.self.inside.gates.ok.0)) c.index_mut.ensures.value c.index.ensures).0 in
    rw (← c.seats.view_is, ← c.from-place.ensures) (tried c.index_mut.result.now c.args.stage c.try_lock-result.new.seat c.seats.inside.seats.items c.from-place.result there c.try_lock-result.result (c.seats.invariant.placed c.from-place.result c.index_mut.result.now there) (c.try_lock-result.ensures.event, c.try_lock-result.ensures.ok, c.try_lock-result.ensures.err))
