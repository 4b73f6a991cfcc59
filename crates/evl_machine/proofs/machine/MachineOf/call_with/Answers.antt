use Rattle.std.proofs.Common.{length, refl, ap, sym, ◌∙◌, subst}
use Rattle.evl_machine.specs.callers.Actors.{ActorState, ClaimsOneOf, acting, call_refusal}
use Rattle.evl_core.specs.words.MutexSeats.{holds_mutex}
use Rattle.evl_machine.specs.stax_locks.StaxSeats.{holds_stax}
use Rattle.evl_machine.proofs.callers.Calling.{found_taken, called_none}
use Rattle.evl_core.proofs.accounts.Knowing.{first_in_me}
use Rattle.evl_machine.proofs.calls.KernelVisits.{HasDone, acted_by, called_by, does_call, may_shut, opened_answers, same_as, same_on, suits_back}
use Rattle.evl_machine.proofs.callers.Opened.{just_took}
use Rattle.evl_machine.proofs.callers.Visits.{rests_lost, suits_opened, suits_lost}
use Rattle.evl_machine.proofs.machine.MachineOf.call_with.Goals as goal
use Rattle.evl_machine.proofs.machine.MachineOf.call_with.Goals.{After-apply-reply}

pub returns-in_default-clause-same : goal.returns-in_default-clause-same
returns-in_default-clause-same g c = let same = c.in_default.ensures.same in (same.0, same.2, same_as same.1)

pub returns-in_default-clause-rests : goal.returns-in_default-clause-rests
returns-in_default-clause-rests g c = rests_lost c.in_default.ensures c.requires.caller.1

pub returns-in_default-clause-suits : goal.returns-in_default-clause-suits
returns-in_default-clause-suits g c = suits_lost c.in_default.ensures c.requires.suits

pub returns-in_default-clause-held : goal.returns-in_default-clause-held
returns-in_default-clause-held g c = c.in_default.ensures.own.held

pub returns-in_default-clause-called : goal.returns-in_default-clause-called
returns-in_default-clause-called g c = called_none _ _ _ _ c.args.call c.requires.caller.1 c.in_default.ensures.lost

pub returns-in_default-clause-acted : goal.returns-in_default-clause-acted
returns-in_default-clause-acted g c = found_taken _ _ _ _ _ c.in_default.ensures.event

pub apply-reply-requires-clause-by_plan : goal.apply-reply-requires-clause-by_plan
apply-reply-requires-clause-by_plan g c = opened_answers c.in-Some.ensures refl c.requires.by_plan

pub apply-reply-requires-clause-suits : goal.apply-reply-requires-clause-suits
apply-reply-requires-clause-suits g c = suits_opened c.in-Some.ensures c.requires.suits

pub apply-reply-requires-clause-stays : goal.apply-reply-requires-clause-stays
apply-reply-requires-clause-stays g c holds = c.requires.stays (ap (λ (a : ActorState). holds_stax a.staxes) (sym c.in-Some.ensures.same.1) ∙ holds)

pub apply-reply-requires-clause-there : goal.apply-reply-requires-clause-there
apply-reply-requires-clause-there g c = subst (λ ps. ClaimsOneOf (length ps) c.args.call) (sym c.in-Some.ensures.places) c.requires.there

-- what was done with the kernel
done : (g : _) (c : After-apply-reply g) → HasDone c.open.new.actor c.in-Some.kernel c.apply-reply.new.self c.apply-reply.new.kernel
done g c =
    let e = c.apply-reply.ensures in
    let free = ap (λ (a : ActorState). call_refusal a.wait (holds_stax a.staxes) (holds_mutex a.mutexes) c.args.call) c.in-Some.ensures.same.1 ∙ c.requires.free in
    does_call c.open.new.actor c.apply-reply.new.self e.seat e.same e.applied e.suits e.held (just_took c.in-Some.ensures c.requires.suits refl c.requires.board) (holds_stax c.open.new.actor.staxes) (holds_mutex (acting c.open.new.actor).mutexes) free

pub shut-requires : goal.shut-requires
shut-requires g c = may_shut c.in-Some.ensures c.requires.suits (done g (goal.at.shut-requires g c).After-apply-reply) c.requires.caller.0

pub returns-clause-same : goal.returns-clause-same
returns-clause-same g c =
    let e = c.apply-reply.ensures in
    let s = c.shut.ensures.same in
    let o = c.in-Some.ensures.same in (s.0 ∙ e.seat.0 ∙ o.0, s.2 ∙ ap first_in_me e.seat.1 ∙ o.2, same_on (same_as o.1) (same_on e.same (same_as s.1)))

pub returns-clause-rests : goal.returns-clause-rests
returns-clause-rests g c = c.shut.ensures.rests

pub returns-clause-suits : goal.returns-clause-suits
returns-clause-suits g c = suits_back c.in-Some.ensures c.requires.suits (done g (goal.at.returns-clause-suits g c).After-apply-reply) c.shut.ensures

pub returns-clause-held : goal.returns-clause-held
returns-clause-held g c = c.shut.ensures.held

pub returns-clause-called : goal.returns-clause-called
returns-clause-called g c = called_by c.in-Some.ensures c.requires.suits (done g (goal.at.returns-clause-called g c).After-apply-reply) c.shut.ensures c.apply-reply.ensures.applied

pub returns-clause-acted : goal.returns-clause-acted
returns-clause-acted g c = acted_by c.in-Some.ensures c.requires.suits (done g (goal.at.returns-clause-acted g c).After-apply-reply) c.shut.ensures c.apply-reply.ensures.applied
