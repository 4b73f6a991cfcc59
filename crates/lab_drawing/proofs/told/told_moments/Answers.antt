use Rattle.std.proofs.Common.{arith}
use Rattle.std.proofs.lemmas.Grind.{common_steps}
use Rattle.lab_drawing.proofs.ShownLaws.{word_is_shown}
use Rattle.lab_drawing.proofs.StandingLaws.{told_step}
use Rattle.lab_drawing.proofs.TickLaws.{tick_dates}
use Rattle.lab_drawing.proofs.told.told_moments.Goals as goal

pub loop-mark-preserved : goal.loop-mark-preserved
loop-mark-preserved c = record {
  told = told_step c.args.marks.now c.loop-mark.mark-index _ _ _ (omega arith) c.in_ok-add_moment.ensures.told c.loop-mark.invariant.told;
  count = grind (arith, common_steps, c.in_ok-add_moment.ensures.count, c.loop-mark.invariant.count);
}

pub returns-clause-shown : goal.returns-clause-shown
returns-clause-shown c front word before = word_is_shown front word before.standings

pub returns-in_err-add_moment-clause-shown : goal.returns-in_err-add_moment-clause-shown
returns-in_err-add_moment-clause-shown c front word before = word_is_shown front word before.standings

pub returns-clause-ticks : goal.returns-clause-ticks
returns-clause-ticks c = tick_dates

pub returns-in_err-add_moment-clause-ticks : goal.returns-in_err-add_moment-clause-ticks
returns-in_err-add_moment-clause-ticks c = tick_dates
