use Rattle.std.proofs.Common.{arith}
use Rattle.evl_core.proofs.words.DealLaws.{dealt-end, deal-turn}
use Rattle.evl_machine.proofs.elements.dealing.deal.Goals as goal

pub loop-seat-preserved : goal.loop-seat-preserved
loop-seat-preserved g c =
    deal-turn c.loop-seat.lists.items c.pop.new.self.items c.loop-seat.seats.items c.in-Some.seat c.len.result c.index_mut.result.now c.push.new.self _ (omega (arith, c.len.ensures, c.pop.new.self.ok.0)) c.in-Some.ensures.items c.loop-seat.invariant.0 c.loop-seat.invariant.1 c.index_mut.ensures.value c.in_ok-push.ensures.items

pub returns : goal.returns
returns g c = dealt-end _ c.loop-seat.seats.items _ (omega (arith, c.in_default.ensures.cases.0, c.loop-seat.seats.ok.0)) c.loop-seat.invariant.1
