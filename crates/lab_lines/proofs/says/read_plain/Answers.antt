use Rattle.std.proofs.Common.{◌∙◌}
use Rattle.lab_lines.proofs.SaidLaws.{plain_said}
use Rattle.lab_lines.proofs.says.read_plain.Goals as goal

pub returns : goal.returns
returns c =
    plain_said c.read_said.result c.args.line.now c.as_slice.result.now c.said_of.result.now (c.as_slice.ensures.value ∙ c.in_ok-words.ensures) c.said_of.ensures
    c.read_said.ensures
