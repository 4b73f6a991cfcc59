use Rattle.std.proofs.Common.{◌∙◌, ap, ℕ, Bool, Option, Some, None, if◌then◌else◌}
use Rattle.std.specs.Option.{option_or}
use Rattle.lab_moments.specs.Standings.{lender_below}
use Rattle.lab_moments.proofs.LenderLaws.{lender_more, lender_none}
use Rattle.lab_moments.proofs.lenders.lender.Goals as goal

pub loop-from-init : goal.loop-from-init
loop-from-init g c = lender_none c.args.kernel.now.history.state c.args.thread c.args.rank

pub loop-from-preserved : goal.loop-from-preserved
loop-from-preserved g c =
    let s = c.args.kernel.now.history.state in let thread = c.args.thread in let rank = c.args.rank in let from = c.loop-from.from in
    c.found-first.ensures ∙ ap (λ (o : Option ℕ). option_or o (if c.lends.result then Some from else None)) c.loop-from.invariant
    ∙ ap (λ (is_one : Bool). option_or (lender_below s thread rank from) (if is_one then Some from else None)) c.lends.ensures.lends ∙ lender_more s thread rank from
