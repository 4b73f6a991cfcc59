use Rattle.std.proofs.Common.{◌≡◌, None, Some, MatchOption, vec_capacity, sym, ap, ◌∙◌, subst}
use Rattle.evl_clock.specs.Agenda.{first_entry}
use Rattle.evl_clock.specs.Dues.{IsNextDue, NothingIsDue, next_due}
use Rattle.evl_clock.proofs.KeptLaws.{all-later, next-first, none-dated}
use Rattle.evl_clock.proofs.OrderLaws.{is-next, is-none}
use Rattle.evl_clock.proofs.clock.ClockOf.due_item.Goals as goal

pub returns-in_err-next-clause-next : goal.returns-in_err-next-clause-next
returns-in_err-next-clause-next g c =
    let none : first_entry c.self.inside.agenda.items ≡ None = ap first_entry (sym c.deref.ensures.value) ∙ sym c.first.ensures.first ∙ c.in_err-next.was in
    let gone : c.from_residual.result ≡ None = cc in
    gone ∙ sym (is-none _ (none-dated _ c.self.inside.agenda.items (vec_capacity c.self.inside.agenda) c.self.invariant none)) ∙ ap next_due c.self.view_is

pub returns-in_err-next-clause-rule : goal.returns-in_err-next-clause-rule
returns-in_err-next-clause-rule g c =
    let none : first_entry c.self.inside.agenda.items ≡ None = ap first_entry (sym c.deref.ensures.value) ∙ sym c.first.ensures.first ∙ c.in_err-next.was in
    let gone : c.from_residual.result ≡ None = cc in
    subst (λ o. MatchOption o (NothingIsDue c.args.self.now) (IsNextDue c.args.self.now)) (sym gone)
    (subst NothingIsDue c.self.view_is (none-dated _ c.self.inside.agenda.items (vec_capacity c.self.inside.agenda) c.self.invariant none))

pub returns-then-self-next-clause-next : goal.returns-then-self-next-clause-next
returns-then-self-next-clause-next g c =
    let there : first_entry c.self.inside.agenda.items ≡ Some c.in_ok-next.next = ap first_entry (sym c.deref.ensures.value) ∙ sym c.first.ensures.first ∙ c.in_ok-next.was in
    rw (← c.self.view_is) (sym (is-none _ (all-later _ c.self.inside.agenda.items (vec_capacity c.self.inside.agenda) c.in_ok-next.next c.self.invariant there c.if-self-next.true)))

pub returns-then-self-next-clause-rule : goal.returns-then-self-next-clause-rule
returns-then-self-next-clause-rule g c =
    let there : first_entry c.self.inside.agenda.items ≡ Some c.in_ok-next.next = ap first_entry (sym c.deref.ensures.value) ∙ sym c.first.ensures.first ∙ c.in_ok-next.was in
    rw (← c.self.view_is) (all-later _ c.self.inside.agenda.items (vec_capacity c.self.inside.agenda) c.in_ok-next.next c.self.invariant there c.if-self-next.true)

pub returns : goal.returns
returns g c =
    let there : first_entry c.self.inside.agenda.items ≡ Some c.in_ok-next.next = ap first_entry (sym c.deref.ensures.value) ∙ sym c.first.ensures.first ∙ c.in_ok-next.was in
    let next = next-first _ c.self.inside.agenda.items (vec_capacity c.self.inside.agenda) c.in_ok-next.next c.self.invariant there c.if-self-next.false in
    rw (← c.self.view_is, c.item_at.ensures.item) (record { next = sym (is-next _ _ next); rule = next })
