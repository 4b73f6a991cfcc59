use Rattle.std.proofs.Common.{sym, true, false, ◌∙◌}
use Rattle.evl_sched.proofs.ApartLaws.{first-both}
use Rattle.evl_sched.proofs.contenders.first_beside.Goals as goal

pub returns-then-goes_before : goal.returns-then-goes_before
returns-then-goes_before g c =
    record { first = first-both _ c.args.alone c.requires c.in-Some.other c.in-Some-place.place (sym c.in-Some-place.ensures.place) c.in-Some.ensures.first true (sym c.goes_before.ensures.before ∙ c.if-goes_before.true) }

pub returns-else-goes_before : goal.returns-else-goes_before
returns-else-goes_before g c =
    record { first = first-both _ c.args.alone c.requires c.in-Some.other c.in-Some-place.place (sym c.in-Some-place.ensures.place) c.in-Some.ensures.first false (sym c.goes_before.ensures.before ∙ c.if-goes_before.false) }
