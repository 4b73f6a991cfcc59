use Rattle.std.proofs.Common.{◌≡◌, false, refl, ap, ◌∙◌, subst}
use Rattle.evl_base.specs.declared.call.Call.TheVariants.{Finish}
use Rattle.evl_base.specs.declared.numbers.ThreadId.{ThreadId}
use Rattle.evl_kernel.specs.waiting.Waits.{has_ended}
use Rattle.evl_machine.specs.callers.Actors.{ActorState, acting, keeps_stage}
use Rattle.evl_machine.specs.calls.Calls.{Answered}
use Rattle.evl_core.specs.accounts.Seats.{account_of}
use Rattle.evl_core.specs.rule.Known.{first_of, seen}
use Rattle.evl_core.specs.words.MutexSeats.{holds_mutex}
use Rattle.evl_machine.specs.stax_locks.StaxSeats.{holds_stax}
use Rattle.evl_core.proofs.accounts.Knowing.{first_in_me}
use Rattle.evl_machine.proofs.calls.KernelVisits.{HasDone, acted_by, called_by, does_call, does_nothing, may_shut, opened_answers, same_as, same_on, suits_back}
use Rattle.evl_machine.proofs.callers.Opened.{just_took}
use Rattle.evl_machine.proofs.callers.Visits.{rests_lost, suits_opened, suits_lost}
use Rattle.evl_machine.proofs.calls.WaitingLaws.{goes_on, look_lost, look_opened, may_finish}
use Rattle.evl_machine.proofs.machine.MachineOf.end_with.Goals as goal
use Rattle.evl_machine.proofs.machine.MachineOf.end_with.Goals.{After-apply-reply}

pub returns-in_default-clause-same : goal.returns-in_default-clause-same
returns-in_default-clause-same g c = let same = c.in_default.ensures.same in (same.0, same.2, same_as same.1)

pub returns-in_default-clause-rests : goal.returns-in_default-clause-rests
returns-in_default-clause-rests g c = rests_lost c.in_default.ensures c.requires.caller.1

pub returns-in_default-clause-suits : goal.returns-in_default-clause-suits
returns-in_default-clause-suits g c = suits_lost c.in_default.ensures c.requires.suits

pub returns-in_default-clause-looked : goal.returns-in_default-clause-looked
returns-in_default-clause-looked g c = look_lost _ _ _ _ _ c.in_default.ensures.event

pub returns-in_default-clause-held : goal.returns-in_default-clause-held
returns-in_default-clause-held g c = c.in_default.ensures.own.held

-- where the wait goes on nothing was done
pub shut-requires : goal.shut-requires
shut-requires g c = may_shut c.in-Some.ensures c.requires.suits (does_nothing c.in-Some.ensures c.requires.suits c.requires.board) c.requires.caller.0

pub returns-then-not-finished-clause-same : goal.returns-then-not-finished-clause-same
returns-then-not-finished-clause-same g c =
    let s = c.shut.ensures.same in
    let o = c.in-Some.ensures.same in (s.0 ∙ o.0, s.2 ∙ o.2, same_as (s.1 ∙ o.1))

pub returns-then-not-finished-clause-rests : goal.returns-then-not-finished-clause-rests
returns-then-not-finished-clause-rests g c = c.shut.ensures.rests

pub returns-then-not-finished-clause-suits : goal.returns-then-not-finished-clause-suits
returns-then-not-finished-clause-suits g c = suits_back c.in-Some.ensures c.requires.suits (does_nothing c.in-Some.ensures c.requires.suits c.requires.board) c.shut.ensures

pub returns-then-not-finished-clause-held : goal.returns-then-not-finished-clause-held
returns-then-not-finished-clause-held g c = c.shut.ensures.held

pub returns-then-not-finished-clause-looked : goal.returns-then-not-finished-clause-looked
returns-then-not-finished-clause-looked g c =
    look_opened _ _ _ _ c.open.new.actor.me c.in-Some.kernel c.in-Some.ensures.opens (subst (λ (t : ThreadId). has_ended c.in-Some.kernel.history.state t.0 ≡ false) c.in-Some.ensures.thread (goes_on _ _ _ _ _ c.actor.view_is c.kernel.ensures c.finished.ensures.ended c.if-not-finished.true)) _ _ c.shut.ensures.account c.in-Some.ensures.event c.shut.ensures.event

pub apply-reply-requires-clause-by_plan : goal.apply-reply-requires-clause-by_plan
apply-reply-requires-clause-by_plan g c = opened_answers c.in-Some.ensures refl c.requires.by_plan

pub apply-reply-requires-clause-suits : goal.apply-reply-requires-clause-suits
apply-reply-requires-clause-suits g c = suits_opened c.in-Some.ensures c.requires.suits

-- where it is over the wait was finished
done : (g : _) (c : After-apply-reply g) → HasDone c.open.new.actor c.in-Some.kernel c.apply-reply.new.self c.apply-reply.new.kernel
done g c =
    let e = c.apply-reply.ensures in
    let stax = holds_stax c.open.new.actor.staxes in
    let mutex = holds_mutex (acting c.open.new.actor).mutexes in
    let waits = ap (λ (a : ActorState). a.wait) c.in-Some.ensures.same.1 ∙ c.requires.waits in
    does_call c.open.new.actor c.apply-reply.new.self e.seat e.same e.applied e.suits e.held (just_took c.in-Some.ensures c.requires.suits refl c.requires.board) stax mutex (may_finish _ stax mutex _ waits c.keeps_stage-keep.ensures)

pub shut-requires-2 : goal.shut-requires-2
shut-requires-2 g c = may_shut c.in-Some.ensures c.requires.suits (done g (goal.at.shut-requires-2 g c).After-apply-reply) c.requires.caller.0

pub returns-clause-same : goal.returns-clause-same
returns-clause-same g c =
    let e = c.apply-reply.ensures in
    let s = c.shut-2.ensures.same in
    let o = c.in-Some.ensures.same in (s.0 ∙ e.seat.0 ∙ o.0, s.2 ∙ ap first_in_me e.seat.1 ∙ o.2, same_on (same_as o.1) (same_on e.same (same_as s.1)))

pub returns-clause-rests : goal.returns-clause-rests
returns-clause-rests g c = c.shut-2.ensures.rests

pub returns-clause-suits : goal.returns-clause-suits
returns-clause-suits g c = suits_back c.in-Some.ensures c.requires.suits (done g (goal.at.returns-clause-suits g c).After-apply-reply) c.shut-2.ensures

pub returns-clause-held : goal.returns-clause-held
returns-clause-held g c = c.shut-2.ensures.held

pub returns-clause-looked : goal.returns-clause-looked
returns-clause-looked g c =
    let keep = c.keeps_stage-keep.ensures ∙ ap (λ (a : ActorState). keeps_stage (holds_stax a.staxes) (holds_mutex a.mutexes)) c.in-Some.ensures.same.1 in
    subst (λ keep. Answered (first_of c.args.actor.now.me.0).limit (account_of (seen c.args.actor.now.me)) (Finish keep) c.apply-reply.result (account_of (seen c.shut-2.new.actor.me))) keep
    (called_by c.in-Some.ensures c.requires.suits (done g (goal.at.returns-clause-looked g c).After-apply-reply) c.shut-2.ensures c.apply-reply.ensures.applied)

pub returns-clause-acted : goal.returns-clause-acted
returns-clause-acted g c = acted_by c.in-Some.ensures c.requires.suits (done g (goal.at.returns-clause-acted g c).After-apply-reply) c.shut-2.ensures c.apply-reply.ensures.applied
