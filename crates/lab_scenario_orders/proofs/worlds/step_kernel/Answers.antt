use Rattle.std.proofs.Common.{Some, sym, ◌∙◌, ap}
use Rattle.evl_kernel.specs.histories.Replays.{step_outcome}
use Rattle.evl_kernel.specs.state.States.{State}
use Rattle.lab_scenario_orders.specs.Callers.{Seen, after, state_begun, is_held}
use Rattle.lab_scenario_orders.specs.Moments.{seen_at}
use Rattle.lab_scenario_orders.proofs.TrailLaws.{blocked, makes}
use Rattle.lab_scenario_orders.proofs.WatchLaws.{noted_after}
use Rattle.lab_scenario_orders.proofs.worlds.step_kernel.Goals as goal

pub returns-then-is_held-clause-next : goal.returns-then-is_held-clause-next
returns-then-is_held-clause-next g c =
    let bank = g.B.BankMaker.bank c.args.bank.now in
    let callers = c.args.callers.now in
    let seen = seen_at callers bank c.args.moment.now in
    let step = c.args.step.now in
    sym (blocked callers.as_picked seen c.args.caller step (ap (λ (s : State). is_held callers.as_picked s step.who.0) (sym c.requires.state) ∙ (sym c.is_held.ensures ∙ c.if-is_held.true)))

pub returns-in-Ok-clause-next : goal.returns-in-Ok-clause-next
returns-in-Ok-clause-next g c =
    let bank = g.B.BankMaker.bank c.args.bank.now in
    let callers = c.args.callers.now in
    let seen = seen_at callers bank c.args.moment.now in
    let step = c.args.step.now in
    let still = ap (λ (s : State). is_held callers.as_picked s step.who.0) (sym c.requires.state) ∙ (sym c.is_held.ensures ∙ c.if-is_held.false) in
    ap (λ (s : Seen). Some s) (c.in-Ok.ensures.next (state_begun callers bank) c.requires.state ∙ ap (λ (s : State). after seen c.args.caller (step_outcome s step.who.0 step.call)) c.requires.state)
    ∙ sym (makes callers.as_picked seen c.args.caller step still)

pub returns-in-Ok-clause-fits : goal.returns-in-Ok-clause-fits
returns-in-Ok-clause-fits g c =
    let bank = g.B.BankMaker.bank c.args.bank.now in
    let callers = c.args.callers.now in
    let step = c.args.step.now in
    noted_after callers bank c.args.watches.now (seen_at callers bank c.args.moment.now) c.in-Ok.next c.args.caller (step_outcome c.args.kernel.now.history.state step.who.0 step.call)
    (c.in-Ok.ensures.next (state_begun callers bank) c.requires.state) c.in-Ok.ensures.fits c.in-Ok.ensures.noted c.in-Ok.ensures.held

pub returns-in-Ok-clause-hand : goal.returns-in-Ok-clause-hand
returns-in-Ok-clause-hand g c =
    let bank = g.B.BankMaker.bank c.args.bank.now in
    let callers = c.args.callers.now in
    let step = c.args.step.now in (
      c.in-Ok.ensures.there ∙ sym (ap (λ (s : Seen). s.state) (c.in-Ok.ensures.next (state_begun callers bank) c.requires.state)),
      c.in-Ok.ensures.bank ∙ c.requires.bank,
    )
