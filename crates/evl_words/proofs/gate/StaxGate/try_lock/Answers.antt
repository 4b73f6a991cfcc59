use Rattle.std.proofs.Common.{◌≡◌, ◌∙◌, ap, sym}
use Rattle.std.specs.Prelude.{None}
use Rattle.std.proofs.lemmas.Result.{IfErr-weaker}
use Rattle.evl_words.specs.GateCalls.{SeatState}
use Rattle.evl_words.proofs.GateSeats.{fails_after, is_none}
use Rattle.evl_words.proofs.gate.StaxGate.try_lock.Goals as goal

pub returns-clause-err : goal.returns-clause-err
returns-clause-err g c =
    let now = c.args.seat.now in
    let free : now.view.held.stage ≡ None = ap (λ (z : SeatState). z.view.held.stage) (sym c.seat.view_is) ∙ (c.seat.invariant.1 ∙ is_none c.seat.inside.held (sym c.if-is_some.ensures)) in
    let found = c.in_ok-word.ensures.ok in
    IfErr-weaker c.exchange.result _ _ (λ refusal f. fails_after now c.look.new.seat _ c.args.stage refusal c.in_ok-word.ensures.seat found.looks found.held free f) c.exchange.ensures.err
