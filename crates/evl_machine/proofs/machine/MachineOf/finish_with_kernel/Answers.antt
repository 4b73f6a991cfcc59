use Rattle.std.proofs.Common.{inl, inr, refl}
use Rattle.evl_machine.proofs.calls.KernelVisits.{HasDone, its_first, its_id, its_table, may_shut, opened_answers, rests_back, stage_back, visited}
use Rattle.evl_machine.proofs.callers.Opened.{just_took, opened_wait, places_there}
use Rattle.evl_machine.proofs.callers.Visits.{finds_taken, stage_lost}
use Rattle.evl_machine.proofs.machine.MachineOf.finish_with_kernel.Goals as goal
use Rattle.evl_machine.proofs.machine.MachineOf.finish_with_kernel.Goals.{After-finish-result}

pub open-requires-clause-machine : goal.open-requires-clause-machine
open-requires-clause-machine g c = its_id c.args.caller.now c.requires.machine refl c.caller.inside.actor c.caller.view_is

pub finish-result-requires-clause-table : goal.finish-result-requires-clause-table
finish-result-requires-clause-table g c = its_table c.args.caller.now c.requires.machine c.self.view_is c.caller.inside.actor c.caller.view_is c.in-Some.ensures

pub finish-result-requires-clause-by_plan : goal.finish-result-requires-clause-by_plan
finish-result-requires-clause-by_plan g c = opened_answers c.in-Some.ensures (its_first c.args.caller.now c.requires.machine refl c.caller.inside.actor c.caller.view_is) c.requires.by_plan

pub finish-result-requires-clause-taken : goal.finish-result-requires-clause-taken
finish-result-requires-clause-taken g c = just_took c.in-Some.ensures c.caller.invariant.1 (its_first c.args.caller.now c.requires.machine c.self.view_is c.caller.inside.actor c.caller.view_is) c.self.invariant.4

pub finish-result-requires-clause-there : goal.finish-result-requires-clause-there
finish-result-requires-clause-there g c = places_there c.caller.inside.actor c.open.new.actor c.args.caller.now _ c.caller.view_is c.in-Some.ensures.places c.requires.there

pub finish-result-requires-clause-waits : goal.finish-result-requires-clause-waits
finish-result-requires-clause-waits g c = opened_wait c.caller.inside.actor c.open.new.actor c.args.caller.now _ c.caller.view_is c.caller.invariant c.in-Some.ensures.same.1 c.requires.waits

-- what was done with the kernel
done : (g : _) (c : After-finish-result g) → HasDone c.open.new.actor c.in-Some.kernel c.finish-result.new.actor c.finish-result.new.kernel
done g c = let does = c.finish-result.ensures in record { core = does.core.0; table = does.core.1; along = does.along; settled = does.settled; made = does.made }

pub shut-requires : goal.shut-requires
shut-requires g c = may_shut c.in-Some.ensures c.caller.invariant.1 (done g (goal.at.shut-requires g c).After-finish-result) (its_id c.args.caller.now c.requires.machine refl c.caller.inside.actor c.caller.view_is)

pub invariant_of-caller : goal.invariant_of-caller
invariant_of-caller g c = rests_back c.in-Some.ensures c.caller.invariant.1 (done g (goal.at.invariant_of-caller g c).After-finish-result) c.shut.ensures

pub returns-in-Some-clause-visits : goal.returns-in-Some-clause-visits
returns-in-Some-clause-visits g c = inr (visited c.in-Some.ensures c.caller.invariant.1 (done g (goal.at.returns-in-Some-clause-visits g c).After-finish-result) c.shut.ensures c.caller.view_is c.finish-result.ensures.finished)

pub returns-in-Some-clause-stage : goal.returns-in-Some-clause-stage
returns-in-Some-clause-stage g c = stage_back c.in-Some.ensures c.caller.invariant.1 (done g (goal.at.returns-in-Some-clause-stage g c).After-finish-result) c.shut.ensures

pub returns-in-None-clause-visits : goal.returns-in-None-clause-visits
returns-in-None-clause-visits g c = inl (refl, finds_taken c.in-None.ensures c.caller.view_is)

pub returns-in-None-clause-stage : goal.returns-in-None-clause-stage
returns-in-None-clause-stage g c = stage_lost c.in-None.ensures c.caller.invariant
