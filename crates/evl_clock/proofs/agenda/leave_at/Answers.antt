use Rattle.std.proofs.Common.{◌≡◌, ◌-◌, Some, length, take, vec_len, sym, ap, ◌∙◌, arith}
use Rattle.evl_clock.specs.Agenda.{entry, first_entry}
use Rattle.evl_clock.proofs.AgendaLaws.{first-taken}
use Rattle.evl_clock.proofs.agenda.leave_at.Goals as goal

pub returns-then-is_first-clause-left : goal.returns-then-is_first-clause-left
returns-then-is_first-clause-left g c =
    let xs = c.args.agenda.now.items in let e = entry c.args.place c.args.date in
    let whole : vec_len c.args.agenda.now ≡ length xs = omega (arith, c.args.agenda.now.ok.0) in
    let is : first_entry xs ≡ Some e = ap first_entry (sym c.deref.ensures.value) ∙ c.is_first.ensures.first c.if-is_first.true in
    c.pop.ensures.rest ∙ ap (λ m. take (m - 1) xs) whole ∙ first-taken xs e c.requires.ordered is
