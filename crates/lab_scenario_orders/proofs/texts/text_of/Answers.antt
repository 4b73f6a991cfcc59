use Rattle.std.proofs.Common.{refl}
use Rattle.evl_scenario.proofs.Texts.{is_utf8-false}
use Rattle.lab_scenario_orders.proofs.texts.text_of.Goals as goal

pub returns-in-Err-clause-other : goal.returns-in-Err-clause-other
returns-in-Err-clause-other c = (refl, is_utf8-false c.args.bytes.now c.in-Err.ensures.cases.0)
