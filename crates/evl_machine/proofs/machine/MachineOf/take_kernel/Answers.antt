use Rattle.std.proofs.Common.{sym, ap, ◌∙◌, arith, subst}
use mathlib.Core.Option.{none}
use Rattle.atomic_table.specs.Table.{step}
use Rattle.evl_kernel.specs.state.KernelViews.{KernelView}
use Rattle.evl_core.specs.accounts.Seats.{CoreMe, account_of}
use Rattle.evl_machine.specs.callers.Handles.{MachineState}
use Rattle.evl_core.specs.declared.views.Account.{Account}
use Rattle.evl_core.specs.worlds.Events.{Takes}
use Rattle.evl_core.specs.lock.Lock.{LockView}
use Rattle.evl_core.specs.rule.Known.{first_of, lock_in, past_of, room_of, seen}
use Rattle.evl_core.specs.words.MutexTokens.{KeepsPlaces}
use Rattle.evl_core.specs.words.Noted.{HasTaken}
use Rattle.evl_core.proofs.accounts.Knowing.{takes_known, took_holds, took_places, took_seen, first_in_me, hand_in_me}
use Rattle.evl_core.proofs.accounts.Taking.{one_slot, out_as, takes_out, comes_out}
use Rattle.evl_machine.proofs.machine.MachineOf.take_kernel.Goals as goal

pub compare_exchange-requires : goal.compare_exchange-requires
compare_exchange-requires g c = (
  c.requires.0 ∙ sym (ap (λ (m : MachineState _). m.id) c.self.view_is),
  omega (arith, c.self.invariant.0),
  takes_known c.self.inside.core.shared.key.value _ _ c.args.seat.now.me _ c.requires.1 (step 0 0 0 1 none),
)

pub exchange-requires : goal.exchange-requires
exchange-requires g c =
    let told = took_seen (step 0 0 0 1 none) _ _ _ _ c.requires.1 c.compare_exchange.ensures.2 in
    let t = told.0 c.if-compare_exchange-ne0.false in (
      c.compare_exchange.ensures.0 ∙ (c.requires.0 ∙ sym (ap (λ (m : MachineState _). m.id) c.self.view_is)),
      one_slot past_of room_of _ _ (ap (λ (m : CoreMe _). m.1) t.1),
    )

pub returns-clause-same : goal.returns-clause-same
returns-clause-same g c =
    let told = took_seen (step 0 0 0 1 none) _ _ _ _ c.requires.1 c.compare_exchange.ensures.2 in
    (c.exchange.ensures.0 ∙ c.compare_exchange.ensures.0, c.exchange.ensures.1 ∙ c.compare_exchange.ensures.1, ap first_in_me c.exchange.ensures.3 ∙ told.2)

pub returns-clause-event : goal.returns-clause-event
returns-clause-event g c =
    let told = took_seen (step 0 0 0 1 none) _ _ _ _ c.requires.1 c.compare_exchange.ensures.2 in
    let found = c.if-compare_exchange-ne0.false in
    let same = ap (λ m. account_of (seen m)) c.exchange.ensures.3 in
    comes_out past_of room_of _ (seen c.args.seat.now.me) (seen c.compare_exchange.new.seat.me) _ _ _ (told.0 found) c.exchange.ensures.2
    (subst (λ (z : Account × LockView). Takes (first_of c.args.seat.now.me.0) (account_of (seen c.args.seat.now.me)) (lock_in c.args.seat.now.me.0) z.0 z.1) (λ i. (sym same i, sym (ap (λ m. lock_in (hand_in_me m)) c.exchange.ensures.3) i)) (told.3 found))

pub returns-then-compare_exchange-ne0-clause-event : goal.returns-then-compare_exchange-ne0-clause-event
returns-then-compare_exchange-ne0-clause-event g c = (took_seen (step 0 0 0 1 none) _ _ _ _ c.requires.1 c.compare_exchange.ensures.2).4 c.if-compare_exchange-ne0.true

pub returns-clause-taken : goal.returns-clause-taken
returns-clause-taken g c =
    let told = took_seen (step 0 0 0 1 none) _ _ _ _ c.requires.1 c.compare_exchange.ensures.2 in
    takes_out past_of room_of _ (seen c.args.seat.now.me) (seen c.compare_exchange.new.seat.me) (seen c.exchange.new.seat.me) _ _ (told.0 c.if-compare_exchange-ne0.false) c.exchange.ensures.2 (ap seen c.exchange.ensures.3)

pub returns-then-compare_exchange-ne0-clause-same : goal.returns-then-compare_exchange-ne0-clause-same
returns-then-compare_exchange-ne0-clause-same g c =
    let told = took_seen (step 0 0 0 1 none) _ _ _ _ c.requires.1 c.compare_exchange.ensures.2 in
    (c.compare_exchange.ensures.0, c.compare_exchange.ensures.1, told.2)

pub returns-then-compare_exchange-ne0-clause-taken : goal.returns-then-compare_exchange-ne0-clause-taken
returns-then-compare_exchange-ne0-clause-taken g c =
    (took_seen (step 0 0 0 1 none) _ _ _ _ c.requires.1 c.compare_exchange.ensures.2).1 c.if-compare_exchange-ne0.true

pub returns-clause-places : goal.returns-clause-places
returns-clause-places g c = subst (λ hand. KeepsPlaces c.args.seat.now.me.0 hand) (sym (ap hand_in_me c.exchange.ensures.3)) (took_places (step 0 0 0 1 none) _ _ _ _ c.requires.1 c.compare_exchange.ensures.2)

pub returns-then-compare_exchange-ne0-clause-places : goal.returns-then-compare_exchange-ne0-clause-places
returns-then-compare_exchange-ne0-clause-places g c = took_places (step 0 0 0 1 none) _ _ _ _ c.requires.1 c.compare_exchange.ensures.2

pub returns-clause-holder : goal.returns-clause-holder
returns-clause-holder g c =
    let holds = took_holds (step 0 0 0 1 none) _ _ _ _ c.requires.1 c.compare_exchange.ensures.2 c.if-compare_exchange-ne0.false in
    out_as past_of room_of c.compare_exchange.new.seat.me.1 holds.0 c.exchange.result _ (λ (k : KernelView _). HasTaken (account_of (seen c.args.seat.now.me)).thread k.history c.exchange.new.seat.me.0) holds.1 c.exchange.ensures.2
    (subst (λ hand. HasTaken (account_of (seen c.args.seat.now.me)).thread holds.0.history hand) (sym (ap hand_in_me c.exchange.ensures.3)) holds.2)
