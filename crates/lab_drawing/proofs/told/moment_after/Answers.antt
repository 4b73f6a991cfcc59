use Rattle.std.proofs.Common.{◌≡◌, ◌∙◌, IfOk, List, ap, map, subst, sym}
use Rattle.lab_drawing.specs.Standings.{Told, last_told, told_after, told_at}
use Rattle.lab_drawing.specs.declared.moments.Standing.{Standing}
use Rattle.lab_drawing.proofs.StandingLaws.{last_is}
use Rattle.lab_drawing.proofs.told.moment_after.Goals as goal

pub returns-in-Some : goal.returns-in-Some
returns-in-Some c =
    let last : last_told (map told_at c.args.moments.now) ≡ told_at c.in-Some.moment.now = last_is c.args.moments.now _ c.in-Some.ensures.value in
    let behind : Told → Type 0 = λ told. IfOk c.moved.result (λ moment. told_at moment ≡ told_after told c.args.line.now) in
    subst behind (ap (λ (standings : List Standing). record { date = c.in-Some.moment.now.date; standings = standings }) c.as_slice.ensures.value ∙ sym last) c.moved.ensures
