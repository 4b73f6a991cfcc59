use Rattle.std.proofs.Common.{◌∙◌, sym}
use Rattle.lab_scenario_orders.proofs.merging.do_trails_meet.Goals as goal

pub returns : goal.returns
returns g c = λ alike. sym (c.is_led_alike.ensures alike) ∙ c.requires.state
