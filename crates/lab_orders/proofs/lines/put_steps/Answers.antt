use Rattle.lab_orders.specs.Seen.{seen_rows}
use Rattle.lab_orders.proofs.LineLaws.{steps_more, steps_none}
use Rattle.lab_orders.proofs.lines.put_steps.Goals as goal

pub loop-step-init : goal.loop-step-init
loop-step-init c = steps_none c.args.who.now (seen_rows c.args.rows.now) c.args.text.now.items

pub loop-step-preserved : goal.loop-step-preserved
loop-step-preserved c =
    steps_more c.args.who.now (seen_rows c.args.rows.now) c.loop-step.step c.args.text.now.items c.loop-step.text.items c.put_step.new.text.items c.loop-step.invariant c.in_ok-put_step.ensures
