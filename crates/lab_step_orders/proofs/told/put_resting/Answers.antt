use Rattle.std.specs.Prelude.{string_bytes}
use Rattle.lab_step_orders.specs.Told.{resting_line}
use Rattle.lab_step_orders.proofs.ToldLaws.{lines_none, lines_more}
use Rattle.lab_step_orders.proofs.told.put_resting.Goals as goal

pub loop-caller-init : goal.loop-caller-init
loop-caller-init g c =
    lines_none (resting_line c.args.crew.now c.args.moment.now.made.items c.args.moment.now.waits.items c.args.kernel.now.history.state) (string_bytes c.args.text.now)

pub loop-caller-preserved : goal.loop-caller-preserved
loop-caller-preserved g c =
    lines_more (resting_line c.args.crew.now c.args.moment.now.made.items c.args.moment.now.waits.items c.args.kernel.now.history.state) c.loop-caller.caller
    (string_bytes c.args.text.now) (string_bytes c.loop-caller.text) (string_bytes c.put_rest.new.text) c.loop-caller.invariant c.in-Ok.ensures
