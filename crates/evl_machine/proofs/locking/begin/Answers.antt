use Rattle.std.proofs.Common.{[], refl, ap, sym, ◌∙◌, subst}
use Rattle.evl_machine.specs.callers.Actors.{SeatedActor, acting}
use Rattle.evl_core.specs.rule.Known.{KernelMe, first_of}
use Rattle.evl_core.specs.words.Noted.{IsSettled}
use Rattle.evl_machine.proofs.mutex_locks.LockingLaws.{along_call, along_none, answers_roomier, enters_made, the_same}
use Rattle.evl_machine.proofs.mutex_locks.LockingTies.{begun_accepted, begun_settled, ceiling_as, count_as, just_as, may_raise, never_seizing, plain_settled, queued_settled, same_settled}
use Rattle.evl_machine.proofs.mutex_locks.LockingCalls.{begins_raised, begins_refused, begins_waiting, won_there}
use Rattle.evl_core.proofs.words.MutexAccepts.{same_twice}
use Rattle.evl_machine.proofs.mutex_locks.SeatsAt.{at_table_of, holds_for, won_at}
use Rattle.evl_core.proofs.words.MutexTokens.{core_twice}
use Rattle.evl_machine.proofs.callers.Visits.{actor_at_mutexes}
use Rattle.evl_core.proofs.ties.Settling.{taken_holds}
use Rattle.evl_words.specs.MutexWorld.{claims, settles}
use Rattle.evl_machine.proofs.callers.OneSteps.{made_then, one_made, two_made}
use Rattle.evl_machine.proofs.locking.begin.Goals as goal

pub returns-in_err-reserve-clause-along : goal.returns-in_err-reserve-clause-along
returns-in_err-reserve-clause-along g c = along_none _ _ refl _ _ _ c.reserve.ensures.same c.requires.held c.requires.taken.suits c.requires.taken.legal (the_same _)

pub claim-requires-clause-table : goal.claim-requires-clause-table
claim-requires-clause-table g c = (at_table_of _ _ c.actor.view_is _ _ c.actor.invariant c.requires.table)

pub claim-requires-clause-holder : goal.claim-requires-clause-holder
claim-requires-clause-holder g c = holds_for _ _ c.actor.view_is c.args.core.now.shared.table_id c.args.core.now.shared.key.value (taken_holds _ _ _ c.requires.taken.taken) c.args.mutex.0

pub settle-pass-requires-clause-table : goal.settle-pass-requires-clause-table
settle-pass-requires-clause-table g c = c.claim.ensures.word.table

pub settle-pass-requires-clause-won : goal.settle-pass-requires-clause-won
settle-pass-requires-clause-won g c = won_at _ _ _ c.args.mutex.0 c.claim.ensures.word.table.its.placed (won_there _ _ _ c.in-Won.ensures.word.at)

pub invariant_of-actor : goal.invariant_of-actor
invariant_of-actor g c = actor_at_mutexes _ _ _ _ _ _ c.actor.invariant (ap (λ (a : SeatedActor _). a.table) c.actor.view_is ∙ c.requires.table.0) (ap (λ (a : SeatedActor _). first_of a.me.0) c.actor.view_is ∙ c.requires.table.1) (core_twice c.claim.ensures.word.core c.settle-pass.ensures.word.core) c.settle-pass.ensures.word.table

pub apply-raised-requires-clause-by_plan : goal.apply-raised-requires-clause-by_plan
apply-raised-requires-clause-by_plan g c = answers_roomier _ _ _ _ c.reserve.ensures.same c.requires.by_plan

pub apply-requires-clause-by_plan : goal.apply-requires-clause-by_plan
apply-requires-clause-by_plan g c = answers_roomier _ _ _ _ c.reserve.ensures.same c.requires.by_plan

pub returns-in_err-apply-in-Queued-clause-along : goal.returns-in_err-apply-in-Queued-clause-along
returns-in_err-apply-in-Queued-clause-along g c =
    along_call _ _ (ap acting c.actor.view_is) _ _ _ _ _ _ _ c.reserve.ensures.same c.claim.ensures.word.seats c.apply.ensures.applied c.apply.ensures.same c.apply.ensures.suits c.apply.ensures.held

pub returns-then-ceiling-clause-along : goal.returns-then-ceiling-clause-along
returns-then-ceiling-clause-along g c =
    along_call _ _ (ap acting c.actor.view_is) _ _ _ _ _ _ _ c.reserve.ensures.same (same_twice c.claim.ensures.word.seats c.settle-pass.ensures.word.seats)
    c.apply-raised.ensures.applied c.apply-raised.ensures.same c.apply-raised.ensures.suits c.apply-raised.ensures.held

pub returns-then-ceiling-clause-begun : goal.returns-then-ceiling-clause-begun
returns-then-ceiling-clause-begun g c =
    let just = just_as _ _ c.actor.view_is _ c.requires.taken in
    let may = may_raise _ _ c.actor.view_is c.args.core.now.shared.key.value c.args.mutex c.actor.invariant c.requires.there c.requires.table.1 (c.requires.kind ∙ c.if-ceiling.true) c.requires.may in
    let entered = enters_made _ _ c.apply-raised.new.kernel _ _ _ _ c.in_ok-reserve.ensures c.apply-raised.ensures.applied in
    begins_raised _ _ (ap acting c.actor.view_is) _ _ _ _ _ c.args.until _ _ c.apply-raised.ensures.same _ c.in_ok-reserve.ensures _ _ _ c.if-ceiling.true c.in-Won.ensures.word.at c.settle-pass.ensures.word.at entered
    (begun_accepted _ _ just _ _ c.args.mutex c.in-Won.ensures.noted c.settle-pass.ensures.noted c.apply-raised.new.kernel _ may entered)

pub returns-then-ceiling-clause-settled : goal.returns-then-ceiling-clause-settled
returns-then-ceiling-clause-settled g c =
    let just = just_as _ _ c.actor.view_is _ c.requires.taken in
    let may = may_raise _ _ c.actor.view_is c.args.core.now.shared.key.value c.args.mutex c.actor.invariant c.requires.there c.requires.table.1 (c.requires.kind ∙ c.if-ceiling.true) c.requires.may in
    let entered = enters_made _ _ c.apply-raised.new.kernel _ _ _ _ c.in_ok-reserve.ensures c.apply-raised.ensures.applied in
    subst (λ (m : KernelMe _). IsSettled m.0 c.apply-raised.new.kernel.history.state) (sym c.apply-raised.ensures.seat.1) (begun_settled _ _ just _ _ c.args.mutex c.in-Won.ensures.noted c.settle-pass.ensures.noted c.apply-raised.new.kernel _ may entered)

pub returns-else-ceiling-clause-settled : goal.returns-else-ceiling-clause-settled
returns-else-ceiling-clause-settled g c =
    let just = just_as _ _ c.actor.view_is _ c.requires.taken in
    let plain = ceiling_as _ _ c.actor.view_is c.args.core.now.shared.key.value c.args.mutex.0 _ c.requires.table.1 (c.requires.kind ∙ c.if-ceiling.false) in
    plain_settled _ _ just _ _ c.args.mutex c.in-Won.ensures.noted c.settle-pass.ensures.noted _ plain c.reserve.ensures.same.history

pub returns-in_err-reserve-clause-settled : goal.returns-in_err-reserve-clause-settled
returns-in_err-reserve-clause-settled g c = same_settled _ _ c.requires.taken _ c.reserve.ensures.same.history

pub returns-in_err-apply-in-Queued-clause-settled : goal.returns-in_err-apply-in-Queued-clause-settled
returns-in_err-apply-in-Queued-clause-settled g c =
    let just = just_as _ _ c.actor.view_is _ c.requires.taken in
    let entered = enters_made _ _ c.apply.new.kernel _ _ _ _ c.in_ok-reserve.ensures c.apply.ensures.applied in
    subst (λ (m : KernelMe _). IsSettled m.0 c.apply.new.kernel.history.state) (sym c.apply.ensures.seat.1) (queued_settled _ _ just _ c.args.mutex c.in-Queued.owner c.args.until c.apply.new.kernel _ c.in-Queued.ensures.noted entered)

pub returns-in_ok-apply-in-Queued-clause-settled : goal.returns-in_ok-apply-in-Queued-clause-settled
returns-in_ok-apply-in-Queued-clause-settled g c =
    let just = just_as _ _ c.actor.view_is _ c.requires.taken in
    let entered = enters_made _ _ c.apply.new.kernel _ _ _ _ c.in_ok-reserve.ensures c.apply.ensures.applied in
    subst (λ (m : KernelMe _). IsSettled m.0 c.apply.new.kernel.history.state) (sym c.apply.ensures.seat.1) (queued_settled _ _ just _ c.args.mutex c.in-Queued.owner c.args.until c.apply.new.kernel _ c.in-Queued.ensures.noted entered)

pub unreachable-requires : goal.unreachable-requires
unreachable-requires g c =
    let just = just_as _ _ c.actor.view_is _ c.requires.taken in
    never_seizing _ _ just _ c.args.mutex (count_as _ _ c.actor.view_is c.args.mutex.0 c.actor.invariant c.requires.there) c.in-Seizing.ensures.noted

pub returns-else-ceiling-clause-along : goal.returns-else-ceiling-clause-along
returns-else-ceiling-clause-along g c =
    along_none _ _ (ap acting c.actor.view_is) _ _ _ c.reserve.ensures.same c.requires.held c.requires.taken.suits c.requires.taken.legal (same_twice c.claim.ensures.word.seats c.settle-pass.ensures.word.seats)

pub returns-in_ok-apply-in-Queued-clause-along : goal.returns-in_ok-apply-in-Queued-clause-along
returns-in_ok-apply-in-Queued-clause-along g c =
    along_call _ _ (ap acting c.actor.view_is) _ _ _ _ _ _ _ c.reserve.ensures.same c.claim.ensures.word.seats c.apply.ensures.applied c.apply.ensures.same c.apply.ensures.suits c.apply.ensures.held

pub returns-in_ok-apply-in-Queued-clause-begun : goal.returns-in_ok-apply-in-Queued-clause-begun
returns-in_ok-apply-in-Queued-clause-begun g c =
    begins_waiting _ _ (ap acting c.actor.view_is) _ _ _ c.args.ceiling _ _ _ _ c.apply.ensures.same _ c.in_ok-reserve.ensures c.in-Queued.owner _ c.in-Queued.ensures.word.at c.in_ok-apply-in-Queued.ensures.applied

pub returns-in_err-apply-in-Queued-clause-begun : goal.returns-in_err-apply-in-Queued-clause-begun
returns-in_err-apply-in-Queued-clause-begun g c =
    begins_refused _ _ (ap acting c.actor.view_is) _ _ _ c.args.ceiling _ _ _ _ c.apply.ensures.same _ c.in_ok-reserve.ensures c.in-Queued.owner _ _ c.from_residual-in_err-apply-in-Queued.ensures.1 c.in-Queued.ensures.word.at c.in_err-apply-in-Queued.ensures.applied

pub returns-in_err-reserve-clause-made : goal.returns-in_err-reserve-clause-made
returns-in_err-reserve-clause-made g c = ([], refl)

pub returns-then-ceiling-clause-made : goal.returns-then-ceiling-clause-made
returns-then-ceiling-clause-made g c =
    made_then _ _ _ c.apply-raised.ensures.seat.1 (two_made _ _ c.actor.view_is c.args.mutex.0 c.args.mutex.0 claims settles _ _ c.in-Won.ensures.noted.event c.settle-pass.ensures.noted.event)

pub returns-else-ceiling-clause-made : goal.returns-else-ceiling-clause-made
returns-else-ceiling-clause-made g c = two_made _ _ c.actor.view_is c.args.mutex.0 c.args.mutex.0 claims settles _ _ c.in-Won.ensures.noted.event c.settle-pass.ensures.noted.event

pub returns-in_err-apply-in-Queued-clause-made : goal.returns-in_err-apply-in-Queued-clause-made
returns-in_err-apply-in-Queued-clause-made g c = made_then _ _ _ c.apply.ensures.seat.1 (one_made _ _ c.actor.view_is c.args.mutex.0 claims _ c.in-Queued.ensures.noted.event)

pub returns-in_ok-apply-in-Queued-clause-made : goal.returns-in_ok-apply-in-Queued-clause-made
returns-in_ok-apply-in-Queued-clause-made g c = made_then _ _ _ c.apply.ensures.seat.1 (one_made _ _ c.actor.view_is c.args.mutex.0 claims _ c.in-Queued.ensures.noted.event)
