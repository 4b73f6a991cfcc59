use Rattle.std.proofs.Common.{ap, sym, ◌∙◌, subst, inl, inr, refl}
use Rattle.evl_machine.specs.callers.Actors.{acting}
use Rattle.evl_machine.specs.callers.Handles.{MachineState}
use Rattle.evl_machine.specs.mutex_locks.Locking.{LocksRaised}
use Rattle.evl_machine.proofs.calls.KernelVisits.{HasDone, its_first, its_homes, its_id, its_kind, its_table, may_shut, opened_answers, rests_back, stage_back, visited}
use Rattle.evl_machine.proofs.callers.Opened.{free_at_ceiling, just_took, lock_open, opened_may}
use Rattle.evl_machine.proofs.callers.Visits.{finds_taken, stage_lost}
use Rattle.evl_machine.proofs.machine.MachineOf.lock_at_ceiling.Goals as goal
use Rattle.evl_machine.proofs.machine.MachineOf.lock_at_ceiling.Goals.{After-lock_raised-result}

pub open-requires-clause-machine : goal.open-requires-clause-machine
open-requires-clause-machine g c = its_id c.args.caller.now c.requires.machine refl c.caller.inside.actor c.caller.view_is

pub lock_raised-result-requires-clause-table : goal.lock_raised-result-requires-clause-table
lock_raised-result-requires-clause-table g c = its_table c.args.caller.now c.requires.machine c.self.view_is c.caller.inside.actor c.caller.view_is c.in-Some.ensures

pub lock_raised-result-requires-clause-by_plan : goal.lock_raised-result-requires-clause-by_plan
lock_raised-result-requires-clause-by_plan g c = opened_answers c.in-Some.ensures (its_first c.args.caller.now c.requires.machine refl c.caller.inside.actor c.caller.view_is) c.requires.by_plan

pub lock_raised-result-requires-clause-taken : goal.lock_raised-result-requires-clause-taken
lock_raised-result-requires-clause-taken g c = just_took c.in-Some.ensures c.caller.invariant.1 (its_first c.args.caller.now c.requires.machine c.self.view_is c.caller.inside.actor c.caller.view_is) c.self.invariant.4

pub lock_raised-result-requires-clause-unrefused : goal.lock_raised-result-requires-clause-unrefused
lock_raised-result-requires-clause-unrefused g c =
    lock_open c.caller.inside.actor c.open.new.actor c.args.caller.now c.args.mutex c.caller.view_is c.in-Some.ensures.same.1 _ _ _ (its_homes c.args.caller.now c.requires.machine c.self.view_is c.caller.inside.actor c.caller.view_is) (its_first c.args.caller.now c.requires.machine c.self.view_is c.caller.inside.actor c.caller.view_is) c.self.invariant.3 c.requires.unrefused

pub lock_raised-result-requires-clause-free : goal.lock_raised-result-requires-clause-free
lock_raised-result-requires-clause-free g c =
    free_at_ceiling c.caller.inside.actor c.open.new.actor c.args.caller.now c.args.mutex c.caller.view_is c.in-Some.ensures.places _ _ _ (its_homes c.args.caller.now c.requires.machine c.self.view_is c.caller.inside.actor c.caller.view_is) (its_first c.args.caller.now c.requires.machine c.self.view_is c.caller.inside.actor c.caller.view_is) c.self.invariant.3 c.requires.unrefused c.requires.ceiling

pub lock_raised-result-requires-clause-may : goal.lock_raised-result-requires-clause-may
lock_raised-result-requires-clause-may g c = opened_may c.caller.inside.actor c.open.new.actor c.args.caller.now c.args.mutex c.caller.view_is c.caller.invariant c.in-Some.ensures.same.1 c.requires.unrefused

pub lock_raised-result-requires-clause-ceiling : goal.lock_raised-result-requires-clause-ceiling
lock_raised-result-requires-clause-ceiling g c = its_kind c.args.caller.now c.requires.machine c.self.view_is c.args.mutex c.requires.ceiling

-- what was done with the kernel
done : (g : _) (c : After-lock_raised-result g) → HasDone c.open.new.actor c.in-Some.kernel c.lock_raised-result.new.actor c.lock_raised-result.new.kernel
done g c = let does = c.lock_raised-result.ensures in record { core = does.core.0; table = does.core.1; along = does.along; settled = does.settled; made = does.made }

pub shut-requires : goal.shut-requires
shut-requires g c = may_shut c.in-Some.ensures c.caller.invariant.1 (done g (goal.at.shut-requires g c).After-lock_raised-result) (its_id c.args.caller.now c.requires.machine refl c.caller.inside.actor c.caller.view_is)

pub invariant_of-caller : goal.invariant_of-caller
invariant_of-caller g c = rests_back c.in-Some.ensures c.caller.invariant.1 (done g (goal.at.invariant_of-caller g c).After-lock_raised-result) c.shut.ensures

pub returns-in-Some-clause-visits : goal.returns-in-Some-clause-visits
returns-in-Some-clause-visits g c =
    let kinds = ap (λ (m : MachineState _). m.first.history.board.mutexes.items) (c.self.view_is ∙ sym c.requires.machine) in
    inr (visited c.in-Some.ensures c.caller.invariant.1 (done g (goal.at.returns-in-Some-clause-visits g c).After-lock_raised-result) c.shut.ensures c.caller.view_is (subst (λ ks. LocksRaised ks (acting c.open.new.actor) c.in-Some.kernel c.args.mutex c.lock_raised-result.result (acting c.lock_raised-result.new.actor) c.lock_raised-result.new.kernel) kinds c.lock_raised-result.ensures.locked))

pub returns-in-Some-clause-stage : goal.returns-in-Some-clause-stage
returns-in-Some-clause-stage g c = stage_back c.in-Some.ensures c.caller.invariant.1 (done g (goal.at.returns-in-Some-clause-stage g c).After-lock_raised-result) c.shut.ensures

pub returns-in-None-clause-visits : goal.returns-in-None-clause-visits
returns-in-None-clause-visits g c = inl (refl, finds_taken c.in-None.ensures c.caller.view_is)

pub returns-in-None-clause-stage : goal.returns-in-None-clause-stage
returns-in-None-clause-stage g c = stage_lost c.in-None.ensures c.caller.invariant
