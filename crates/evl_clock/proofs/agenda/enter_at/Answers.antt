use Rattle.std.proofs.Common.{◌≡◌, is_ok, true, insert, if◌then◌else◌, ap, ◌∙◌, arith}
use Rattle.evl_clock.specs.Agenda.{entry, place_of, with_entry}
use Rattle.evl_clock.proofs.AgendaLaws.{placed-there}
use Rattle.evl_clock.proofs.agenda.enter_at.Goals as goal

pub returns-clause-entered : goal.returns-clause-entered
returns-clause-entered g c =
    let xs = c.args.agenda.now.items in let e = entry c.args.place c.args.date in let at = c.place_of-at.result in
    let ok : is_ok c.insert.result ≡ true = c.insert.ensures.succeeds (omega (arith, c.requires.room, c.args.agenda.now.ok.0)) in
    let is : at ≡ place_of e xs = c.place_of-at.ensures.place ∙ ap (place_of e) c.deref.ensures.value in
    let items : c.insert.new.self.items ≡ with_entry e xs = c.insert.ensures.items ∙ ap (λ b. if b then insert xs at e else xs) ok ∙ ap (λ k. insert xs k e) is ∙ placed-there e xs in
    items
