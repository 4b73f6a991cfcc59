use Rattle.std.specs.Prelude.{string_bytes}
use Rattle.lab_scenario_orders.specs.Warnings.{refused_line}
use Rattle.lab_scenario_orders.proofs.ToldLaws.{lines_none, lines_more}
use Rattle.lab_scenario_orders.proofs.warnings.put_all_refused.Goals as goal

pub loop-place-init : goal.loop-place-init
loop-place-init c = lines_none (refused_line c.args.outcomes.now c.args.who.now) (string_bytes c.args.text.now)

pub loop-place-preserved : goal.loop-place-preserved
loop-place-preserved c =
    lines_more (refused_line c.args.outcomes.now c.args.who.now) c.loop-place.place (string_bytes c.args.text.now) (string_bytes c.loop-place.text) (string_bytes c.put_refused.new.text)
    c.loop-place.invariant c.in_ok-put_refused.ensures
