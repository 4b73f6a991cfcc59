use Rattle.std.proofs.Common.{◌∙◌}
use Rattle.lab_lines.proofs.HeardLaws.{pairs_heard}
use Rattle.lab_lines.proofs.lines.read_pairs.Goals as goal

pub returns-in_ok-text-in-None : goal.returns-in_ok-text-in-None
returns-in_ok-text-in-None c =
    pairs_heard c.read_small.result c.args.line.now c.args.thread c.args.word c.args.pairs.now c.as_slice.result.now c.in-None.ensures
    (c.as_slice.ensures.value ∙ c.in_ok-text-in-None.ensures) c.read_small.ensures
