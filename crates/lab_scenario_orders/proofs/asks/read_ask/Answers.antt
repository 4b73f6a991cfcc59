use Rattle.std.proofs.Common.{inl, refl}
use Rattle.evl_scenario.proofs.Texts.{is_utf8-false}
use Rattle.lab_scenario_orders.proofs.asks.read_ask.Goals as goal

pub returns-in_default-clause-why : goal.returns-in_default-clause-why
returns-in_default-clause-why c = inl (refl, is_utf8-false c.args.bytes.now c.in_default.ensures.cases.0)
