use Rattle.lab_drawing.proofs.TextLaws.{number_found, number_missing}
use Rattle.lab_drawing.proofs.texts.long_number.Goals as goal

pub returns-in-Ok : goal.returns-in-Ok
returns-in-Ok c = number_found 64 c.in-Ok.number c.args.text.now c.parse.result c.parse.ensures.value.0 c.in-Ok.is

pub returns-in-Err : goal.returns-in-Err
returns-in-Err c = number_missing 64 c.args.text.now c.parse.result c.in-Err.field-0 c.parse.ensures.value.0 c.in-Err.is
