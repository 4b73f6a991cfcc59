use Rattle.lab_drawing.proofs.TextLaws.{around_found, around_missing}
use Rattle.lab_drawing.proofs.texts.around.Goals as goal

pub returns-in-Some : goal.returns-in-Some
returns-in-Some c = around_found c.args.part.now c.args.text.now _ _ c.in-Some.ensures.cases

pub returns-in-None : goal.returns-in-None
returns-in-None c = around_missing c.args.part.now c.args.text.now c.in-None.ensures.cases
