use Rattle.std.proofs.Common.{ap, sym, ◌∙◌, subst, inl, inr, refl}
use Rattle.evl_machine.specs.callers.Actors.{ActorState}
use Rattle.evl_machine.specs.callers.Handles.{CallerState}
use Rattle.evl_core.specs.words.MutexSeats.{HasOnce}
use Rattle.evl_machine.proofs.calls.KernelVisits.{HasDone, its_first, its_homes, its_id, its_table, may_shut, opened_answers, rests_back, stage_back, visited}
use Rattle.evl_machine.proofs.callers.Opened.{just_took, opened_seats, opened_wait}
use Rattle.evl_machine.proofs.callers.Visits.{finds_taken, stage_lost}
use Rattle.evl_machine.proofs.machine.MachineOf.release_with_kernel.Goals as goal
use Rattle.evl_machine.proofs.machine.MachineOf.release_with_kernel.Goals.{After-release-result}

pub open-requires-clause-machine : goal.open-requires-clause-machine
open-requires-clause-machine g c = its_id c.args.caller.now c.requires.machine refl c.caller.inside.actor c.caller.view_is

pub release-result-requires-clause-table : goal.release-result-requires-clause-table
release-result-requires-clause-table g c = its_table c.args.caller.now c.requires.machine c.self.view_is c.caller.inside.actor c.caller.view_is c.in-Some.ensures

pub release-result-requires-clause-by_plan : goal.release-result-requires-clause-by_plan
release-result-requires-clause-by_plan g c = opened_answers c.in-Some.ensures (its_first c.args.caller.now c.requires.machine refl c.caller.inside.actor c.caller.view_is) c.requires.by_plan

pub release-result-requires-clause-taken : goal.release-result-requires-clause-taken
release-result-requires-clause-taken g c = just_took c.in-Some.ensures c.caller.invariant.1 (its_first c.args.caller.now c.requires.machine c.self.view_is c.caller.inside.actor c.caller.view_is) c.self.invariant.4

pub release-result-requires-clause-seats : goal.release-result-requires-clause-seats
release-result-requires-clause-seats g c = opened_seats c.in-Some.ensures _ _ _ (its_homes c.args.caller.now c.requires.machine c.self.view_is c.caller.inside.actor c.caller.view_is) (its_first c.args.caller.now c.requires.machine c.self.view_is c.caller.inside.actor c.caller.view_is)

pub release-result-requires-clause-once : goal.release-result-requires-clause-once
release-result-requires-clause-once g c = subst (λ seats. HasOnce seats c.args.pass) (sym (ap (λ (a : ActorState). a.mutexes) c.in-Some.ensures.same.1 ∙ ap (λ (s : CallerState _). s.mutexes) c.caller.view_is)) c.requires.once

pub release-result-requires-clause-idle : goal.release-result-requires-clause-idle
release-result-requires-clause-idle g c = opened_wait c.caller.inside.actor c.open.new.actor c.args.caller.now _ c.caller.view_is c.caller.invariant c.in-Some.ensures.same.1 c.requires.idle

pub release-result-requires-clause-own : goal.release-result-requires-clause-own
release-result-requires-clause-own g c = c.in-Some.ensures.own

-- what was done with the kernel
done : (g : _) (c : After-release-result g) → HasDone c.open.new.actor c.in-Some.kernel c.release-result.new.actor c.release-result.new.kernel
done g c = let does = c.release-result.ensures in record { core = does.core.0; table = does.core.1; along = does.along; settled = does.settled; made = does.made }

pub shut-requires : goal.shut-requires
shut-requires g c = may_shut c.in-Some.ensures c.caller.invariant.1 (done g (goal.at.shut-requires g c).After-release-result) (its_id c.args.caller.now c.requires.machine refl c.caller.inside.actor c.caller.view_is)

pub invariant_of-caller : goal.invariant_of-caller
invariant_of-caller g c = rests_back c.in-Some.ensures c.caller.invariant.1 (done g (goal.at.invariant_of-caller g c).After-release-result) c.shut.ensures

pub returns-in-Some-clause-visits : goal.returns-in-Some-clause-visits
returns-in-Some-clause-visits g c = inr (visited c.in-Some.ensures c.caller.invariant.1 (done g (goal.at.returns-in-Some-clause-visits g c).After-release-result) c.shut.ensures c.caller.view_is c.release-result.ensures.released)

pub returns-in-Some-clause-stage : goal.returns-in-Some-clause-stage
returns-in-Some-clause-stage g c = stage_back c.in-Some.ensures c.caller.invariant.1 (done g (goal.at.returns-in-Some-clause-stage g c).After-release-result) c.shut.ensures

pub returns-in-None-clause-visits : goal.returns-in-None-clause-visits
returns-in-None-clause-visits g c = inl (refl, finds_taken c.in-None.ensures c.caller.view_is)

pub returns-in-None-clause-stage : goal.returns-in-None-clause-stage
returns-in-None-clause-stage g c = stage_lost c.in-None.ensures c.caller.invariant
