use Rattle.std.proofs.Common.{ℕ, ◌+◌, ◌∙◌, ap, arith}
use Rattle.std.specs.Prelude.{slice_set}
use Rattle.lab_scenario_orders.proofs.TextLaws.{index_is}
use Rattle.lab_scenario_orders.proofs.TrailLaws.{after_is, fits_after}
use Rattle.lab_scenario_orders.proofs.worlds.after_step.Goals as goal

pub returns-in-Ok-moment_after-clause-next : goal.returns-in-Ok-moment_after-clause-next
returns-in-Ok-moment_after-clause-next g c = λ s there.
    let before = c.args.moment.now in
    let made = before.made.items in
    let count = c.index-count.result.now in
    let more = index_is made c.args.caller count (omega (arith, c.requires.caller, c.requires.fits.made)) c.index-count.ensures in
    let next = c.in-Ok-moment_after in
    after_is c.args.callers.now s c.args.kernel.now.history.state before next.next c.args.caller c.args.place c.args.step.now c.in-Ok.answer.0
    c.requires.step there c.in-Ok.ensures.reply
    (next.ensures.made ∙ ap (λ (n : ℕ). slice_set made c.args.caller (n + 1)) more) next.ensures.answers next.ensures.trail

pub returns-in-Ok-moment_after-clause-fits : goal.returns-in-Ok-moment_after-clause-fits
returns-in-Ok-moment_after-clause-fits g c =
    let next = c.in-Ok-moment_after in
    fits_after c.args.callers.now c.args.moment.now next.next c.args.caller (c.index-count.result.now + 1) _ c.requires.fits next.ensures.made next.ensures.answers
