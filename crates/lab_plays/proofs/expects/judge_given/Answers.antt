use Rattle.std.proofs.Common.{List, ℕ, map, subst, sym}
use Rattle.evl_plans.specs.Told.{handler_of}
use Rattle.lab_lines.specs.Kinds.{IsPlain, IsUnread}
use Rattle.lab_plays.proofs.ExpectLemmas.{given_judged, given_unread}
use Rattle.lab_plays.proofs.expects.judge_given.Goals as goal

pub returns-in-Ok : goal.returns-in-Ok
returns-in-Ok c =
    let text = c.args.text.now in
    let plain = c.as_slice.result.now in
    let read : IsPlain c.in_ok-copied.field-0.items plain = subst (IsPlain c.in_ok-copied.field-0.items) (sym c.as_slice.ensures.value) c.in-Ok.ensures.plain in
    let is : IsPlain text plain = subst (λ (t : List ℕ). IsPlain t plain) c.in_ok-copied.ensures read in
    given_judged (map handler_of c.args.plans.now) c.args.limit c.args.name.now c.args.first.now c.args.expected.now text _ plain c.judge_plain.result is c.judge_plain.ensures

pub returns : goal.returns
returns c =
    let e = c.in-Err.field-0 in
    given_unread (map handler_of c.args.plans.now) c.args.limit c.args.name.now c.args.first.now c.args.expected.now c.args.text.now e c.nothing.result
    (subst (λ (t : List ℕ). IsUnread t e) c.in_ok-copied.ensures c.in-Err.ensures.unread) c.nothing.ensures
