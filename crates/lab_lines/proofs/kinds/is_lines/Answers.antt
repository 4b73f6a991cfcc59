use Rattle.std.proofs.Common.{refl}
use Rattle.lab_lines.proofs.TextLaws.{lines_begin, no_lines}
use Rattle.lab_lines.proofs.kinds.is_lines.Goals as goal

pub returns-in-Some : goal.returns-in-Some
returns-in-Some c = lines_begin c.begins.result c.args.bytes.now c.in-Some.text.now c.in-Some.ensures.text.1 c.in-Some.ensures.text.0 c.begins.ensures

pub returns-in-None : goal.returns-in-None
returns-in-None c = no_lines c.args.bytes.now (c.in-None.ensures.none refl)
