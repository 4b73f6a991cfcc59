use Rattle.evl_scenario.proofs.Texts.{is_utf8-true, is_utf8-false}
use Rattle.lab_streams.proofs.texts.text_in.Goals as goal

pub returns-in-Ok : goal.returns-in-Ok
returns-in-Ok c = let yes = is_utf8-true c.args.bytes.now c.in-Ok.ensures.cases.1 in rw (yes, c.in-Ok.ensures.cases.0)

pub returns-in-Err : goal.returns-in-Err
returns-in-Err c = let no = is_utf8-false c.args.bytes.now c.in-Err.ensures.cases.0 in rw no
