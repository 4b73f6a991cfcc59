use Rattle.std.proofs.Common.{ap, ◌∙◌, subst}
use Rattle.evl_machine.specs.calls.Calls.{HoldsAtItsStage, own_refusal}
use Rattle.evl_machine.proofs.callers.Staying.{at_stage}
use Rattle.evl_machine.proofs.calls.TurnedAway.{away_free, away_more, own_call_is}
use Rattle.evl_machine.proofs.machine.MachineOf.call.Goals as goal

pub returns-in-Some-clause-stage : goal.returns-in-Some-clause-stage
returns-in-Some-clause-stage g c = subst HoldsAtItsStage c.caller.view_is (at_stage _ _ _ _ c.refusal.ensures.held c.caller.invariant.1 c.caller.invariant.0.own)

pub attempt-requires-clause-free : goal.attempt-requires-clause-free
attempt-requires-clause-free g c =
    let none = own_call_is c.caller.inside.actor c.args.caller.now c.args.call _ c.caller.view_is c.caller.invariant c.in_default.ensures.refused in
    ap (own_refusal c.loop.caller) c.loop.invariant.1 ∙ away_free _ c.loop.caller c.args.call c.loop.invariant.0 none

pub loop-preserved : goal.loop-preserved
loop-preserved g c = (away_more _ c.args.caller.now c.loop.caller c.loop.waiting c.attempt.new.caller c.loop.invariant.0 c.in-Err.ensures.called, c.in-Err.ensures.back ∙ c.loop.invariant.1)
