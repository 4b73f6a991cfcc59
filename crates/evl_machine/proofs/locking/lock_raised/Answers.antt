use Rattle.std.proofs.Common.{[], Ok, refl, ap, sym, ◌∙◌, subst}
use Rattle.evl_machine.specs.callers.Actors.{SeatedActor, acting}
use Rattle.evl_machine.proofs.mutex_locks.LockingLaws.{along_call, along_none, answers_roomier, enters_made, locks_raised, the_same}
use Rattle.evl_machine.proofs.mutex_locks.LockingTies.{just_as, lost_settled, may_raise, same_settled, won_accepted, won_settled}
use Rattle.evl_core.proofs.words.SeatLists.{some-within}
use Rattle.evl_machine.proofs.mutex_locks.SeatsAt.{at_table_of, core_of_step, holds_for}
use Rattle.evl_core.proofs.words.MutexTokens.{core_twice}
use Rattle.evl_core.specs.words.MutexSeats.{mutex_refusal}
use Rattle.evl_core.specs.words.MutexTokens.{seats_at}
use Rattle.evl_core.specs.rule.Known.{KernelMe}
use Rattle.evl_core.specs.words.Noted.{IsSettled}
use Rattle.evl_machine.proofs.callers.Visits.{actor_at_mutexes, same_core}
use Rattle.evl_machine.proofs.mutex_locks.WordCalls.{tries_so}
use Rattle.evl_core.proofs.ties.Settling.{taken_holds}
use Rattle.evl_words.specs.MutexWorld.{tries}
use Rattle.evl_machine.proofs.callers.OneSteps.{made_then, one_made}
use Rattle.evl_machine.proofs.locking.lock_raised.Goals as goal

pub returns-in_err-reserve-clause-along : goal.returns-in_err-reserve-clause-along
returns-in_err-reserve-clause-along g c = along_none _ _ refl _ _ _ c.reserve.ensures.same c.requires.held c.requires.taken.suits c.requires.taken.legal (the_same _)

pub try_held-requires-clause-table : goal.try_held-requires-clause-table
try_held-requires-clause-table g c = (at_table_of _ _ c.actor.view_is _ _ c.actor.invariant c.requires.table)

pub try_held-requires-clause-holder : goal.try_held-requires-clause-holder
try_held-requires-clause-holder g c = (holds_for _ _ c.actor.view_is c.args.core.now.shared.table_id c.args.core.now.shared.key.value (taken_holds _ _ _ c.requires.taken.taken) c.args.mutex.0)

pub try_held-requires-clause-ceiling : goal.try_held-requires-clause-ceiling
try_held-requires-clause-ceiling g c = c.requires.ceiling

pub invariant_of-actor : goal.invariant_of-actor
invariant_of-actor g c = actor_at_mutexes _ _ _ _ _ _ c.actor.invariant (ap (λ a. a.table) c.actor.view_is ∙ c.requires.table.0) (ap (λ a. Rattle.evl_core.specs.rule.Known.first_of a.me.0) c.actor.view_is ∙ c.requires.table.1) c.try_held.ensures.word.core c.try_held.ensures.word.table

pub returns-in_err-pass-clause-along : goal.returns-in_err-pass-clause-along
returns-in_err-pass-clause-along g c =
    along_none _ _ (ap acting c.actor.view_is) _ _ _ c.reserve.ensures.same c.requires.held c.requires.taken.suits c.requires.taken.legal c.try_held.ensures.word.seats

pub apply-raised-requires-clause-by_plan : goal.apply-raised-requires-clause-by_plan
apply-raised-requires-clause-by_plan g c = answers_roomier _ _ _ _ c.reserve.ensures.same c.requires.by_plan

pub returns-clause-core : goal.returns-clause-core
returns-clause-core g c =
    let one = core_of_step _ _ c.actor.view_is _ _ _ _ _ c.requires.table c.try_held.ensures.word.core c.try_held.ensures.word.table in
    (core_twice one.0 (same_core _ _ c.apply-raised.ensures.seat.1), c.apply-raised.ensures.seat.0 ∙ one.1)

pub returns-clause-along : goal.returns-clause-along
returns-clause-along g c =
    along_call _ _ (ap acting c.actor.view_is) _ _ _ _ _ _ _ c.reserve.ensures.same c.try_held.ensures.word.seats
    c.apply-raised.ensures.applied c.apply-raised.ensures.same c.apply-raised.ensures.suits c.apply-raised.ensures.held

pub returns-clause-locked : goal.returns-clause-locked
returns-clause-locked g c =
    let just = just_as _ _ c.actor.view_is _ c.requires.taken in
    let may = may_raise _ _ c.actor.view_is c.args.core.now.shared.key.value c.args.mutex c.actor.invariant (some-within _ _ _ c.requires.free) c.requires.table.1 c.requires.ceiling c.requires.may in
    let entered = enters_made _ _ c.apply-raised.new.kernel _ _ _ _ c.in_ok-reserve.ensures c.apply-raised.ensures.applied in
    let accepted = won_accepted _ _ just _ c.args.mutex c.apply-raised.new.kernel _ c.in_ok-pass.ensures.noted may entered in
    locks_raised {C = g.row.C.Denot} _ _ (ap acting c.actor.view_is) c.args.kernel.now c.apply-raised.new.kernel c.args.core.now.shared.key.value.history.board.mutexes.items c.args.mutex c.in_ok-pass.pass (seats_at c.try_held.new.seat.table_id c.try_held.new.seat.me.0 c.try_held.new.places) _ _ (tries_so c.args.core.now.shared.key.value.history.board.mutexes.items (seats_at c.actor.inside.seat.table_id c.actor.inside.seat.me.0 c.actor.inside.places) (seats_at c.try_held.new.seat.table_id c.try_held.new.seat.me.0 c.try_held.new.places) c.args.mutex.0 (Ok c.in_ok-pass.pass) (ap (λ (a : SeatedActor _). mutex_refusal c.args.core.now.shared.key.value.history.board.mutexes.items (acting a).mutexes c.args.mutex.0) c.actor.view_is ∙ c.requires.unrefused) (c.in_ok-pass.ensures.pass, c.in_ok-pass.ensures.word.at)) c.apply-raised.ensures.same entered accepted

pub returns-clause-settled : goal.returns-clause-settled
returns-clause-settled g c =
    let just = just_as _ _ c.actor.view_is _ c.requires.taken in
    let may = may_raise _ _ c.actor.view_is c.args.core.now.shared.key.value c.args.mutex c.actor.invariant (some-within _ _ _ c.requires.free) c.requires.table.1 c.requires.ceiling c.requires.may in
    let entered = enters_made _ _ c.apply-raised.new.kernel _ _ _ _ c.in_ok-reserve.ensures c.apply-raised.ensures.applied in
    subst (λ (m : KernelMe _). IsSettled m.0 c.apply-raised.new.kernel.history.state) (sym c.apply-raised.ensures.seat.1) (won_settled _ _ just _ c.args.mutex c.apply-raised.new.kernel _ c.in_ok-pass.ensures.noted may entered)

pub returns-in_err-reserve-clause-settled : goal.returns-in_err-reserve-clause-settled
returns-in_err-reserve-clause-settled g c = same_settled _ _ c.requires.taken _ c.reserve.ensures.same.history

pub returns-in_err-pass-clause-settled : goal.returns-in_err-pass-clause-settled
returns-in_err-pass-clause-settled g c = lost_settled _ _ (just_as _ _ c.actor.view_is _ c.requires.taken) _ _ _ c.in_err-pass.ensures.noted c.reserve.ensures.same.history

pub returns-in_err-reserve-clause-made : goal.returns-in_err-reserve-clause-made
returns-in_err-reserve-clause-made g c = ([], refl)

pub returns-in_err-pass-clause-made : goal.returns-in_err-pass-clause-made
returns-in_err-pass-clause-made g c = one_made _ _ c.actor.view_is c.args.mutex.0 tries _ c.in_err-pass.ensures.noted.event

pub returns-clause-made : goal.returns-clause-made
returns-clause-made g c = made_then _ _ _ c.apply-raised.ensures.seat.1 (one_made _ _ c.actor.view_is c.args.mutex.0 tries _ c.in_ok-pass.ensures.noted.event)
