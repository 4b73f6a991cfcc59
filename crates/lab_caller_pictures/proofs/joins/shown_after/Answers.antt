use Rattle.std.proofs.Common.{arith}
use Rattle.lab_caller_pictures.proofs.JoinLaws.{shown_there}
use Rattle.lab_caller_pictures.proofs.joins.shown_after.Goals as goal

pub returns : goal.returns
returns c =
    let before = c.in_ok-checked_sub.field-0 in
    let is = c.in_ok-checked_sub.ensures in
    shown_there c.args.shown.now before c.args.entered c.get.result (omega (arith, is.0, is.1)) c.get.ensures.lookup
