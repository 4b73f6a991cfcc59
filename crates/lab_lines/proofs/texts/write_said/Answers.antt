use Rattle.lab_lines.proofs.TextLaws.{said_meant, said_unwritten}
use Rattle.lab_lines.proofs.texts.write_said.Goals as goal

pub returns-in-Some-clause-means : goal.returns-in-Some-clause-means
returns-in-Some-clause-means c = said_meant c.write_all.result c.args.gathering c.in-Some.opening c.in-Some.is c.write_all.ensures.means

pub returns-in-Some-clause-refused : goal.returns-in-Some-clause-refused
returns-in-Some-clause-refused c = said_unwritten c.write_all.result c.args.gathering c.in-Some.opening c.in-Some.is c.write_all.ensures.refused
