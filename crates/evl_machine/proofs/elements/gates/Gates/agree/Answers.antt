use Rattle.std.proofs.Common.{◌<◌, length, slice_set, ap, ◌∙◌, sym, arith, subst}
use Rattle.std.proofs.Common.{slice_get}
use Rattle.std.proofs.lemmas.Option.{slice_get_within}
use Rattle.evl_words.specs.GateCalls.{SeatState}
use Rattle.evl_core.specs.words.Homes.{gate_home, stax_home}
use Rattle.evl_core.specs.words.AtSeats.{AreCounted}
use Rattle.evl_machine.specs.stax_locks.StaxSeats.{stax_passes}
use Rattle.evl_core.proofs.words.SeatLists.{same-length, set-same}
use Rattle.evl_machine.proofs.stax_locks.StaxLaws.{agree_more, found}
use Rattle.evl_machine.proofs.elements.gates.Gates.agree.Goals as goal

pub invariant_of-one : goal.invariant_of-one
invariant_of-one g c = let h = c.loop-place.invariant in subst (λ (z : _ × _). AreCounted (λ (x : SeatState). x.gate.0) stax_passes z.0 z.1) (λ i. (sym h.one i, sym h.held.0 i)) c.one.invariant

pub invariant_of-other : goal.invariant_of-other
invariant_of-other g c = let h = c.loop-place.invariant in subst (λ (z : _ × _). AreCounted (λ (x : SeatState). x.gate.0) stax_passes z.0 z.1) (λ i. (sym h.other i, sym h.held.1 i)) c.other.invariant

pub agree-requires : goal.agree-requires
agree-requires g c =
    let h = c.loop-place.invariant in
    let gates = c.self.inside.gates in
    let within : c.loop-place.place < length gates.items = omega (arith, c.loop-place-test.true, c.len-place-end.ensures, gates.ok.0) in record {
      gate = (
        (found c.loop-place.one-inside.seats.items _ gates.items _ c.loop-place.place c.index_mut.result.now c.index.result.now (h.one ∙ c.one.view_is) c.self.view_is c.requires.homes.0 within c.index_mut.ensures.value c.index.ensures).1,
        (found c.loop-place.other-inside.seats.items _ gates.items _ c.loop-place.place c.index_mut-in-loop-place.result.now c.index.result.now (h.other ∙ c.other.view_is) c.self.view_is c.requires.homes.1 within c.index_mut-in-loop-place.ensures.value c.index.ensures).1,
      );
    }

pub loop-place-preserved : goal.loop-place-preserved
loop-place-preserved g c =
    let h = c.loop-place.invariant in
    let gates = c.self.inside.gates in
    let place = c.loop-place.place in
    let within : place < length gates.items = omega (arith, c.loop-place-test.true, c.len-place-end.ensures, gates.ok.0) in
    let one = (found c.loop-place.one-inside.seats.items _ gates.items _ place c.index_mut.result.now c.index.result.now (h.one ∙ c.one.view_is) c.self.view_is c.requires.homes.0 within c.index_mut.ensures.value c.index.ensures).0 in
    let other = (found c.loop-place.other-inside.seats.items _ gates.items _ place c.index_mut-in-loop-place.result.now c.index.result.now (h.other ∙ c.other.view_is) c.self.view_is c.requires.homes.1 within c.index_mut-in-loop-place.ensures.value c.index.ensures).0 in record {
      one = ap (λ (s : SeatState). slice_set c.loop-place.one-inside.seats.items place s) c.agree.ensures.same.0 ∙ (set-same c.loop-place.one-inside.seats.items place c.index_mut.result.now one ∙ h.one);
      other = ap (λ (s : SeatState). slice_set c.loop-place.other-inside.seats.items place s) c.agree.ensures.same.1 ∙ (set-same c.loop-place.other-inside.seats.items place c.index_mut-in-loop-place.result.now other ∙ h.other);
      held = h.held;
      agree = agree_more c.one.inside.seats.items c.other.inside.seats.items place c.index_mut.result.now c.index_mut-in-loop-place.result.now h.agree (ap (λ l. slice_get l place) (sym h.one) ∙ one) (ap (λ l. slice_get l place) (sym h.other) ∙ other) c.agree.ensures.agree;
    }

pub returns-clause-agree : goal.returns-clause-agree
returns-clause-agree g c i p q at also =
    let h = c.loop-place.invariant in
    let here = ap (λ l. slice_get l i) c.one.view_is ∙ at in
    let long = slice_get_within c.one.inside.seats.items i p here in
    h.agree i p q (omega (arith, long, c.loop-place-test.false, c.len-place-end.ensures, c.self.inside.gates.ok.0, ap length c.one.view_is, ap length c.self.view_is, same-length stax_home gate_home _ _ c.requires.homes.0)) here (ap (λ l. slice_get l i) c.other.view_is ∙ also)
