use Rattle.std.proofs.Common.{List, ℕ, map, subst}
use Rattle.evl_plans.specs.Told.{handler_of}
use Rattle.lab_plays.specs.Expects.{JudgesText}
use Rattle.lab_plays.proofs.PlayLemmas.{judged_told}
use Rattle.lab_plays.proofs.plays.play_judged.Goals as goal

pub returns-clause-told : goal.returns-clause-told
returns-clause-told g c =
    let bank = map handler_of c.args.plans.now in
    let limit = c.args.playing.limit in
    let name = c.args.name.now in
    let text = c.args.text.items in
    let own = c.in_ok-judged.judged in
    let judges : JudgesText bank limit name text own = subst (λ (t : List ℕ). JudgesText bank limit name t own) c.as_slice.ensures.value c.in_ok-judged.ensures in
    judged_told _ c.args.playing.telling bank limit name text _ _ _ _ _ c.in_ok-status.status own c.tell_judged.result c.in_ok-status.ensures.told judges c.tell_judged.ensures.status
    c.tell_judged.ensures.said
