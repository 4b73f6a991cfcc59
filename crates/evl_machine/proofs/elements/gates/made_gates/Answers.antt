use Rattle.std.proofs.Common.{◌≡◌, length, ap, sym, ◌∙◌, subst, map, arith}
use Rattle.std.specs.List.{range_with_len}
use Rattle.evl_words.specs.GateCalls.{new_seat}
use Rattle.evl_machine.specs.stax_locks.StaxSeats.{AreGatesOf}
use Rattle.evl_core.proofs.words.DealLaws.{deals-one, dealt-turn}
use Rattle.evl_machine.proofs.stax_locks.StaxLaws.{gates-more}
use Rattle.evl_machine.proofs.elements.gates.made_gates.Goals as goal

pub deal-requires : goal.deal-requires
deal-requires g c = deals-one c.loop-limit.lists.items c.in-Ok.seats.items c.args.threads _ _ c.loop-limit.invariant.1 c.in-Ok.ensures.ok.3

pub loop-limit-preserved : goal.loop-limit-preserved
loop-limit-preserved g c =
    let more = sym c.in_ok-push.ensures.items in
    let made = c.in-Ok.ensures.ok in
    let number : c.in-Ok.gate.id.0 ≡ length c.loop-limit.gates.items = omega (arith, ap (λ n. n.0) made.0, c.len.ensures, c.loop-limit.gates.ok.0) in (
      subst (AreGatesOf _ c.args.threads) more (gates-more c.args.limits.now c.loop-limit.limit-index c.args.threads c.loop-limit.gates.items c.in-Ok.gate (omega (arith, c.loop-limit-test.true)) c.loop-limit.invariant.0 number made.1 made.2),
      dealt-turn (λ gate k. new_seat gate k) c.loop-limit.lists.items _ c.in-Ok.seats.items c.loop-limit.gates.items c.in-Ok.gate c.args.threads c.loop-limit.invariant.1 made.3 c.in_ok-deal.ensures ∙ ap (λ gates. map (λ k. map (λ gate. new_seat gate k) gates) (range_with_len 0 c.args.threads)) more,
    )
