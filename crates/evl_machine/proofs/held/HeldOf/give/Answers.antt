use Rattle.std.proofs.Common.{sym, ap}
use Rattle.evl_machine.specs.callers.Handles.{MachineState}
use Rattle.evl_machine.proofs.callers.Visits.{given_back, given_event, given_suits, stage_resting}
use Rattle.evl_machine.proofs.held.HeldOf.give.Goals as goal

pub shut-requires : goal.shut-requires
shut-requires g c = let is = c.self.invariant in record { machine = sym (ap (λ (m : MachineState _). m.id) is.0); comes = is.2; held = is.1; settled = is.4 }

pub invariant_of-result : goal.invariant_of-result
invariant_of-result g c = (c.shut.ensures.rests, given_suits c.self.inside.machine.now c.self.inside.actor c.shut.new.actor c.self.inside.kernel c.self.invariant c.shut.ensures.same c.shut.ensures.account)

pub returns-clause-stage : goal.returns-clause-stage
returns-clause-stage g c = stage_resting _ c.shut.ensures.held (c.shut.ensures.rests, given_suits c.self.inside.machine.now c.self.inside.actor c.shut.new.actor c.self.inside.kernel c.self.invariant c.shut.ensures.same c.shut.ensures.account)

pub returns-clause-given : goal.returns-clause-given
returns-clause-given g c = given_back c.self.inside.machine.now c.self.inside.actor c.shut.new.actor c.self.inside.kernel c.self.invariant c.shut.ensures.same c.shut.ensures.account _ c.self.view_is

pub returns-clause-event : goal.returns-clause-event
returns-clause-event g c = given_event c.self.inside.machine.now c.self.inside.actor c.shut.new.actor c.self.inside.kernel c.self.invariant c.shut.ensures.same c.shut.ensures.account _ c.self.view_is c.shut.ensures.event
