use Rattle.std.proofs.Common.{None, List, ℕ, map, subst}
use Rattle.evl_plans.specs.Told.{handler_of}
use Rattle.lab_plays.specs.Expects.{JudgesText}
use Rattle.lab_plays.proofs.CheckLemmas.{judged_printed}
use Rattle.lab_plays.proofs.checks.check_judged.Goals as goal

pub returns-clause-prints : goal.returns-clause-prints
returns-clause-prints g c =
    let bank = map handler_of c.args.plans.now in
    let name = c.args.name.now in
    let text = c.args.text.items in
    let own = c.in_ok-judged.judged in
    let judges : JudgesText bank None name text own = subst (λ (t : List ℕ). JudgesText bank None name t own) c.as_slice.ensures.value c.in_ok-judged.ensures in
    judged_printed _ bank name text _ _ _ c.in_ok-is_bad.is_bad c.status_of.result own c.tell_judged.result c.in_ok-is_bad.ensures.prints judges c.status_of.ensures
    c.tell_judged.ensures.status c.tell_judged.ensures.said
