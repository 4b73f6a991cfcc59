use Rattle.std.proofs.Common.{◌≡◌, None, Some, vec_capacity, sym, ap, ◌∙◌}
use Rattle.evl_clock.specs.Agenda.{first_entry}
use Rattle.evl_clock.specs.Dues.{earliest_date}
use Rattle.evl_clock.proofs.EarliestLaws.{earliest-first, earliest-none}
use Rattle.evl_clock.proofs.clock.ClockOf.earliest_date.Goals as goal

pub returns-in-Some : goal.returns-in-Some
returns-in-Some g c =
    let there : first_entry c.self.inside.agenda.items ≡ Some c.in-Some.next = ap first_entry (sym c.deref.ensures.value) ∙ sym c.first.ensures.first ∙ c.in-Some.is in
    record { date = sym (earliest-first _ c.self.inside.agenda.items (vec_capacity c.self.inside.agenda) c.in-Some.next c.self.invariant there) ∙ ap earliest_date c.self.view_is }

pub returns-in-None : goal.returns-in-None
returns-in-None g c =
    let none : first_entry c.self.inside.agenda.items ≡ None = ap first_entry (sym c.deref.ensures.value) ∙ sym c.first.ensures.first ∙ c.in-None.is in
    record { date = sym (earliest-none _ c.self.inside.agenda.items (vec_capacity c.self.inside.agenda) c.self.invariant none) ∙ ap earliest_date c.self.view_is }
