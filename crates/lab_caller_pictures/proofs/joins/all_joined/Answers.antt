use Rattle.std.proofs.Common.{◌≡◌, inl, inr, map, arith}
use Rattle.std.specs.Slice.Iter.{iter_rest}
use Rattle.lab_drawing.specs.Standings.{told_at}
use Rattle.lab_moments.specs.Moments.{moment_shown}
use Rattle.lab_caller_pictures.specs.Joins.{all_joined}
use Rattle.lab_caller_pictures.proofs.JoinLaws.{counts_end, one_joined, words_end}
use Rattle.lab_caller_pictures.proofs.joins.all_joined.Goals as goal

pub loop-moment-preserved : goal.loop-moment-preserved
loop-moment-preserved c =
    let cut = c.in-Some.ensures.steps in
    one_joined (map moment_shown c.args.shown.now) _ _ _ _ c.in-Some.moment _ _ _ _ _ _ c.loop-moment.invariant cut.0.0 cut.1 c.shown_after.ensures c.in_ok-joined.ensures c.in_ok-push.ensures.items

pub returns : goal.returns
returns c =
    let shown = map moment_shown c.args.shown.now in
    let all = map told_at c.loop-moment.all.items in
    let wanted = all_joined shown (map told_at c.args.words.items) c.args.entered.now in
    let left = c.loop-moment.moment-iterator in
    elim c.in-None.ensures.steps as (λ v. all ≡ wanted) [
      | inl ended ↦ words_end shown all wanted left.a.rest.items (iter_rest left.b) (omega (arith, left.a.rest.ok.0, ended.1.0)) c.loop-moment.invariant
      | inr ended ↦ counts_end shown all wanted (map told_at left.a.rest.items) (iter_rest left.b) ended.1.0 c.loop-moment.invariant
    ]
