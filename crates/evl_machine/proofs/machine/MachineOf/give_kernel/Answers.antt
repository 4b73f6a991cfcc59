use Rattle.std.proofs.Common.{sym, ap, ◌∙◌, arith, subst}
use mathlib.Core.Option.{none}
use Rattle.atomic_table.specs.Table.{step}
use Rattle.evl_kernel.specs.state.KernelViews.{KernelView}
use Rattle.evl_core.specs.worlds.Events.{Gives}
use Rattle.evl_core.specs.lock.Lock.{LockView}
use Rattle.evl_machine.specs.callers.Handles.{MachineState}
use Rattle.evl_core.specs.accounts.Seats.{account_of}
use Rattle.evl_core.specs.rule.Known.{ComesFrom, lock_in, past_of, room_of, seen}
use Rattle.evl_core.specs.words.MutexTokens.{KeepsPlaces}
use Rattle.evl_core.specs.words.Noted.{IsSettled}
use Rattle.evl_core.proofs.accounts.Knowing.{gives_known, gave_places, gave_seen, first_in_me, hand_in_me}
use Rattle.evl_core.proofs.accounts.Taking.{is_loaded}
use Rattle.evl_machine.proofs.machine.MachineOf.give_kernel.Goals as goal

pub store-requires : goal.store-requires
store-requires g c =
    let is = is_loaded past_of room_of (account_of (seen c.args.seat.now.me)) c.args.kernel (seen c.args.seat.now.me) (seen c.exchange.new.seat.me) c.requires.kernel.0 (ap seen c.exchange.ensures.3) in (
      c.exchange.ensures.0 ∙ (c.requires.machine ∙ sym (ap (λ (m : MachineState _). m.id) c.self.view_is)),
      omega (arith, c.self.invariant.0),
      gives_known c.self.inside.core.shared.key.value _ _ c.exchange.new.seat.me (account_of (seen c.args.seat.now.me)) c.args.kernel is (subst (λ first. ComesFrom first c.args.kernel) (sym (ap first_in_me c.exchange.ensures.3)) c.requires.comes) c.requires.kernel.1
          (subst (λ hand. IsSettled hand c.args.kernel.history.state) (sym (ap hand_in_me c.exchange.ensures.3)) c.requires.settled) (step 0 0 0 0 none),
    )

pub returns-clause-same : goal.returns-clause-same
returns-clause-same g c =
    let is = is_loaded past_of room_of (account_of (seen c.args.seat.now.me)) c.args.kernel (seen c.args.seat.now.me) (seen c.exchange.new.seat.me) c.requires.kernel.0 (ap seen c.exchange.ensures.3) in
    let told = gave_seen (step 0 0 0 0 none) 0 _ _ _ c.args.kernel is c.store.ensures.2 in
    (c.store.ensures.0 ∙ c.exchange.ensures.0, c.store.ensures.1 ∙ c.exchange.ensures.1, told.1 ∙ ap first_in_me c.exchange.ensures.3)

pub returns-clause-event : goal.returns-clause-event
returns-clause-event g c =
    let is = is_loaded past_of room_of (account_of (seen c.args.seat.now.me)) c.args.kernel (seen c.args.seat.now.me) (seen c.exchange.new.seat.me) c.requires.kernel.0 (ap seen c.exchange.ensures.3) in
    let told = gave_seen (step 0 0 0 0 none) 0 _ _ _ c.args.kernel is c.store.ensures.2 in
    subst (λ (z : KernelView _ × LockView). Gives z.0 (account_of (seen c.args.seat.now.me)) z.1 c.args.kernel (account_of (seen c.store.new.seat.me)) (lock_in c.store.new.seat.me.0)) (λ i. (ap first_in_me c.exchange.ensures.3 i, ap (λ m. lock_in (hand_in_me m)) c.exchange.ensures.3 i)) told.2

pub returns-clause-given : goal.returns-clause-given
returns-clause-given g c =
    let is = is_loaded past_of room_of (account_of (seen c.args.seat.now.me)) c.args.kernel (seen c.args.seat.now.me) (seen c.exchange.new.seat.me) c.requires.kernel.0 (ap seen c.exchange.ensures.3) in
    (gave_seen (step 0 0 0 0 none) 0 _ _ _ c.args.kernel is c.store.ensures.2).0

pub returns-clause-places : goal.returns-clause-places
returns-clause-places g c =
    let is = is_loaded past_of room_of (account_of (seen c.args.seat.now.me)) c.args.kernel (seen c.args.seat.now.me) (seen c.exchange.new.seat.me) c.requires.kernel.0 (ap seen c.exchange.ensures.3) in
    subst (λ hand. KeepsPlaces hand c.store.new.seat.me.0) (ap hand_in_me c.exchange.ensures.3) (gave_places (step 0 0 0 0 none) 0 _ _ _ c.args.kernel is c.store.ensures.2)
