use Rattle.std.proofs.Common.{◌∙◌}
use Rattle.lab_lines.proofs.HeardLaws.{call_heard}
use Rattle.lab_lines.proofs.lines.read_call.Goals as goal

pub returns-in_ok-pairs-in-None : goal.returns-in_ok-pairs-in-None
returns-in_ok-pairs-in-None c =
    call_heard c.read_pairs.result c.args.line.now c.args.thread c.args.word c.args.rest.now c.as_slice.result.now c.in-None.ensures
    (c.as_slice.ensures.value ∙ c.in_ok-pairs-in-None.ensures) c.read_pairs.ensures
