use Rattle.std.proofs.Common.{arith}
use Rattle.lab_lines.proofs.PairLaws.{pairs_all, pairs_on}
use Rattle.lab_lines.proofs.places.pairs_in.Goals as goal

pub loop-word-preserved : goal.loop-word-preserved
loop-word-preserved c =
    pairs_on c.args.line.now c.args.words.now c.loop-word.word-index _ c.loop-word.pairs.items c.add_word.new.pairs.items c.loop-word-test.true c.loop-word.invariant
    c.in_ok-add_word.ensures

pub returns : goal.returns
returns c =
    pairs_all c.args.line.now c.args.words.now c.loop-word.word-index c.loop-word.pairs.items (omega (arith, c.loop-word-test.false, c.loop-word.auto.word-index-end))
    c.loop-word.invariant
