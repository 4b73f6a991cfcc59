use Rattle.evl_scenario.proofs.Texts.{text_after-found, text_after-missing}
use Rattle.lab_scenario_orders.proofs.searches.past.Goals as goal

pub returns-in-Some : goal.returns-in-Some
returns-in-Some c = text_after-found c.args.front.now c.args.text.now _ c.in-Some.ensures.cases

pub returns-in-None : goal.returns-in-None
returns-in-None c = text_after-missing c.args.front.now c.args.text.now c.in-None.ensures.cases
