use Rattle.std.proofs.Common.{sym}
use Rattle.evl_scenario.proofs.Texts.{is_utf8-false, is_utf8-true}
use Rattle.evl_c.proofs.checks.name_in.Goals as goal

pub returns-in-Ok-clause-utf8 : goal.returns-in-Ok-clause-utf8
returns-in-Ok-clause-utf8 c = sym (is_utf8-true c.args.bytes.now c.in-Ok.ensures.cases.1)

pub returns-in-Err-clause-utf8 : goal.returns-in-Err-clause-utf8
returns-in-Err-clause-utf8 c = sym (is_utf8-false c.args.bytes.now c.in-Err.ensures.cases.0)
