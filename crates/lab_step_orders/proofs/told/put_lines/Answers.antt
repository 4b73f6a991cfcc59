use Rattle.std.specs.Prelude.{string_bytes}
use Rattle.lab_step_orders.proofs.ToldLaws.{lines_none, lines_more}
use Rattle.lab_step_orders.proofs.told.put_lines.Goals as goal

pub loop-number-init : goal.loop-number-init
loop-number-init g c = lines_none (g.L.Lines.line c.args.lines.now) (string_bytes c.args.text.now)

pub loop-number-preserved : goal.loop-number-preserved
loop-number-preserved g c =
    lines_more (g.L.Lines.line c.args.lines.now) c.loop-number.number (string_bytes c.args.text.now) (string_bytes c.loop-number.text) (string_bytes c.put.new.text)
    c.loop-number.invariant c.in-Ok.ensures
