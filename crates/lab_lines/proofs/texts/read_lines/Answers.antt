use Rattle.lab_lines.proofs.TextLaws.{text_means, text_refused}
use Rattle.lab_lines.proofs.texts.read_lines.Goals as goal

pub returns-in-Some-clause-means : goal.returns-in-Some-clause-means
returns-in-Some-clause-means c = text_means c.read_text.result c.args.bytes.now c.in-Some.text.now c.in-Some.ensures.text.1 c.in-Some.ensures.text.0 c.read_text.ensures.means

pub returns-in-Some-clause-refused : goal.returns-in-Some-clause-refused
returns-in-Some-clause-refused c =
    text_refused c.read_text.result c.args.bytes.now c.in-Some.text.now c.in-Some.ensures.text.1 c.in-Some.ensures.text.0 c.read_text.ensures.refused
