use Rattle.std.proofs.Common.{[], refl, ap, sym, ◌∙◌, subst}
use Rattle.evl_machine.specs.callers.Actors.{SeatedActor, acting}
use Rattle.evl_core.specs.rule.Known.{KernelMe, first_of}
use Rattle.evl_core.specs.words.Noted.{IsSettled}
use Rattle.evl_machine.proofs.mutex_locks.LockingLaws.{along_call, along_none, answers_roomier, enters_made, same_kernel, the_same}
use Rattle.evl_machine.proofs.mutex_locks.LockingTies.{count_as, got_accepts, got_settled, just_as, late_forgets, late_settled, same_settled}
use Rattle.evl_machine.proofs.mutex_locks.LockingCalls.{finishes_late, finishes_locked, is_ended, is_timed, on_board}
use Rattle.evl_machine.proofs.mutex_locks.SeatsAt.{at_table_of, holds_for}
use Rattle.evl_machine.proofs.callers.Visits.{actor_at_mutexes}
use Rattle.evl_core.proofs.ties.Settling.{taken_holds}
use Rattle.evl_words.specs.MutexWorld.{accepts, awaits, forgets}
use Rattle.evl_machine.proofs.callers.OneSteps.{made_then, one_made, two_made}
use Rattle.evl_machine.proofs.locking.finish.Goals as goal

pub returns-then-not-finished-clause-along : goal.returns-then-not-finished-clause-along
returns-then-not-finished-clause-along g c = along_none _ _ refl _ _ _ (same_kernel _) c.requires.held c.requires.taken.suits c.requires.taken.legal (the_same _)

pub returns-in_err-reserve-clause-along : goal.returns-in_err-reserve-clause-along
returns-in_err-reserve-clause-along g c = along_none _ _ refl _ _ _ c.reserve.ensures.same c.requires.held c.requires.taken.suits c.requires.taken.legal (the_same _)

pub forget-requires-clause-table : goal.forget-requires-clause-table
forget-requires-clause-table g c = (at_table_of _ _ c.actor.view_is _ _ c.actor.invariant c.requires.table)

pub forget-requires-clause-holder : goal.forget-requires-clause-holder
forget-requires-clause-holder g c = holds_for _ _ c.actor.view_is c.args.core.now.shared.table_id c.args.core.now.shared.key.value (taken_holds _ _ _ c.requires.taken.taken) c.args.mutex.0

pub end_wait-ended-requires-clause-by_plan : goal.end_wait-ended-requires-clause-by_plan
end_wait-ended-requires-clause-by_plan g c = answers_roomier _ _ _ _ c.reserve.ensures.same c.requires.by_plan

pub invariant_of-actor : goal.invariant_of-actor
invariant_of-actor g c = actor_at_mutexes _ _ _ _ _ _ c.actor.invariant (ap (λ (a : SeatedActor _). a.table) c.actor.view_is ∙ c.requires.table.0) (ap (λ (a : SeatedActor _). first_of a.me.0) c.actor.view_is ∙ c.requires.table.1) c.forget.ensures.word.core c.forget.ensures.word.table

pub returns-then-timed_out-clause-along : goal.returns-then-timed_out-clause-along
returns-then-timed_out-clause-along g c =
    along_call _ _ (ap acting c.actor.view_is) _ _ _ _ _ _ _ c.reserve.ensures.same c.forget.ensures.word.seats
    c.end_wait-ended.ensures.applied c.end_wait-ended.ensures.same c.end_wait-ended.ensures.suits c.end_wait-ended.ensures.held

pub returns-then-timed_out-clause-finished : goal.returns-then-timed_out-clause-finished
returns-then-timed_out-clause-finished g c =
    finishes_late _ _ (ap acting c.actor.view_is) _ _ _ _ _ _ c.end_wait-ended.ensures.same _ c.in_ok-reserve.ensures c.requires.taken.legal c.requires.taken.fits
    (on_board _ _ _ _ c.kernel.ensures c.if-not-finished.false c.finished.ensures.outside) (is_ended _ _ _ _ c.kernel.ensures c.finished.ensures.ended c.if-not-finished.false)
    _ c.end_wait-ended.ensures.applied c.in-Ok.ensures.word.at (is_timed _ _ _ _ _ _ c.reserve.ensures.same c.kernel-2.ensures c.timed_out.ensures.ended c.if-timed_out.true)

pub accept-requires-clause-table : goal.accept-requires-clause-table
accept-requires-clause-table g c = (at_table_of _ _ c.actor.view_is _ _ c.actor.invariant c.requires.table)

pub accept-requires-clause-holder : goal.accept-requires-clause-holder
accept-requires-clause-holder g c = holds_for _ _ c.actor.view_is c.args.core.now.shared.table_id c.args.core.now.shared.key.value (taken_holds _ _ _ c.requires.taken.taken) c.args.mutex.0

pub end_wait-over-requires-clause-by_plan : goal.end_wait-over-requires-clause-by_plan
end_wait-over-requires-clause-by_plan g c = answers_roomier _ _ _ _ c.reserve.ensures.same c.requires.by_plan

pub invariant_of-actor-2 : goal.invariant_of-actor-2
invariant_of-actor-2 g c = actor_at_mutexes _ _ _ _ _ _ c.actor.invariant (ap (λ (a : SeatedActor _). a.table) c.actor.view_is ∙ c.requires.table.0) (ap (λ (a : SeatedActor _). first_of a.me.0) c.actor.view_is ∙ c.requires.table.1) c.accept.ensures.word.core c.accept.ensures.word.table

pub returns-clause-along : goal.returns-clause-along
returns-clause-along g c =
    along_call _ _ (ap acting c.actor.view_is) _ _ _ _ _ _ _ c.reserve.ensures.same c.accept.ensures.word.seats
    c.end_wait-over.ensures.applied c.end_wait-over.ensures.same c.end_wait-over.ensures.suits c.end_wait-over.ensures.held

pub returns-clause-finished : goal.returns-clause-finished
returns-clause-finished g c =
    finishes_locked _ _ (ap acting c.actor.view_is) _ _ _ _ _ _ c.end_wait-over.ensures.same _ c.in_ok-reserve.ensures c.requires.taken.legal c.requires.taken.fits
    (on_board _ _ _ _ c.kernel.ensures c.if-not-finished.false c.finished.ensures.outside) (is_ended _ _ _ _ c.kernel.ensures c.finished.ensures.ended c.if-not-finished.false)
    _ c.end_wait-over.ensures.applied _ c.in-Ok-accept.ensures.word.at (is_timed _ _ _ _ _ _ c.reserve.ensures.same c.kernel-2.ensures c.timed_out.ensures.ended c.if-timed_out.false)

pub returns-then-not-finished-clause-settled : goal.returns-then-not-finished-clause-settled
returns-then-not-finished-clause-settled g c = same_settled _ _ c.requires.taken _ refl

pub returns-in_err-reserve-clause-settled : goal.returns-in_err-reserve-clause-settled
returns-in_err-reserve-clause-settled g c = same_settled _ _ c.requires.taken _ c.reserve.ensures.same.history

pub unreachable-requires : goal.unreachable-requires
unreachable-requires g c =
    let just = just_as _ _ c.actor.view_is _ c.requires.taken in
    late_forgets _ _ just c.args.mutex (count_as _ _ c.actor.view_is c.args.mutex.0 c.actor.invariant c.requires.there) (ap (λ (a : SeatedActor _). a.wait) c.actor.view_is ∙ c.requires.waits) (is_ended _ _ _ _ c.kernel.ensures c.finished.ensures.ended c.if-not-finished.false) _ (is_timed _ _ _ _ _ _ c.reserve.ensures.same c.kernel-2.ensures c.timed_out.ensures.ended c.if-timed_out.true) c.in_default.ensures.noted

pub unreachable-requires-in_default-accept : goal.unreachable-requires-in_default-accept
unreachable-requires-in_default-accept g c =
    let just = just_as _ _ c.actor.view_is _ c.requires.taken in
    got_accepts _ _ just c.args.mutex (count_as _ _ c.actor.view_is c.args.mutex.0 c.actor.invariant c.requires.there) (ap (λ (a : SeatedActor _). a.wait) c.actor.view_is ∙ c.requires.waits) (is_ended _ _ _ _ c.kernel.ensures c.finished.ensures.ended c.if-not-finished.false) _ (is_timed _ _ _ _ _ _ c.reserve.ensures.same c.kernel-2.ensures c.timed_out.ensures.ended c.if-timed_out.false) c.in_default-accept.ensures.noted

pub returns-then-timed_out-clause-settled : goal.returns-then-timed_out-clause-settled
returns-then-timed_out-clause-settled g c =
    let just = just_as _ _ c.actor.view_is _ c.requires.taken in
    let entered = enters_made _ _ c.end_wait-ended.new.kernel _ _ _ _ c.in_ok-reserve.ensures c.end_wait-ended.ensures.applied in
    subst (λ (m : KernelMe _). IsSettled m.0 c.end_wait-ended.new.kernel.history.state) (sym c.end_wait-ended.ensures.seat.1)
    (late_settled _ _ just c.args.mutex (count_as _ _ c.actor.view_is c.args.mutex.0 c.actor.invariant c.requires.there) (ap (λ (a : SeatedActor _). a.wait) c.actor.view_is ∙ c.requires.waits) (is_ended _ _ _ _ c.kernel.ensures c.finished.ensures.ended c.if-not-finished.false) _ c.end_wait-ended.new.kernel _ _ (is_timed _ _ _ _ _ _ c.reserve.ensures.same c.kernel-2.ensures c.timed_out.ensures.ended c.if-timed_out.true) c.in-Ok.ensures.noted entered)

pub returns-clause-settled : goal.returns-clause-settled
returns-clause-settled g c =
    let just = just_as _ _ c.actor.view_is _ c.requires.taken in
    let entered = enters_made _ _ c.end_wait-over.new.kernel _ _ _ _ c.in_ok-reserve.ensures c.end_wait-over.ensures.applied in
    subst (λ (m : KernelMe _). IsSettled m.0 c.end_wait-over.new.kernel.history.state) (sym c.end_wait-over.ensures.seat.1)
    (got_settled _ _ just c.args.mutex (count_as _ _ c.actor.view_is c.args.mutex.0 c.actor.invariant c.requires.there) (ap (λ (a : SeatedActor _). a.wait) c.actor.view_is ∙ c.requires.waits) (is_ended _ _ _ _ c.kernel.ensures c.finished.ensures.ended c.if-not-finished.false) _ _ c.end_wait-over.new.kernel _ _ c.in-Ok-accept.ensures.noted.1 c.in-Ok-accept.ensures.noted.2 entered)

pub returns-then-not-finished-clause-made : goal.returns-then-not-finished-clause-made
returns-then-not-finished-clause-made g c = ([], refl)

pub returns-in_err-reserve-clause-made : goal.returns-in_err-reserve-clause-made
returns-in_err-reserve-clause-made g c = ([], refl)

pub returns-then-timed_out-clause-made : goal.returns-then-timed_out-clause-made
returns-then-timed_out-clause-made g c = made_then _ _ _ c.end_wait-ended.ensures.seat.1 (one_made _ _ c.actor.view_is c.args.mutex.0 forgets _ c.in-Ok.ensures.noted.event)

pub returns-clause-made : goal.returns-clause-made
returns-clause-made g c =
    made_then _ _ _ c.end_wait-over.ensures.seat.1
    (two_made _ _ c.actor.view_is c.args.mutex.0 c.args.mutex.0 awaits accepts _ _ c.in-Ok-accept.ensures.noted.1.event c.in-Ok-accept.ensures.noted.2.event)
