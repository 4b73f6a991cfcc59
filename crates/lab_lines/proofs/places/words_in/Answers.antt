use Rattle.std.proofs.Common.{arith}
use Rattle.lab_lines.proofs.WordLaws.{words_all, words_on}
use Rattle.lab_lines.proofs.places.words_in.Goals as goal

pub loop-at-preserved : goal.loop-at-preserved
loop-at-preserved c =
    words_on c.args.line.now c.loop-at.at c.loop-at.begun c.in_ok-begun.begun c.loop-at.words.items c.step_over.new.words.items c.loop-at-test.true c.loop-at.invariant
    c.in_ok-begun.ensures.words c.in_ok-begun.ensures.begun

pub returns : goal.returns
returns c =
    words_all c.args.line.now c.loop-at.at c.loop-at.begun c.loop-at.words.items c.step_over-2.new.words.items
    (omega (arith, c.loop-at-test.false, c.loop-at.auto.at-end)) c.loop-at.invariant c.in_ok-step_over.ensures.words
