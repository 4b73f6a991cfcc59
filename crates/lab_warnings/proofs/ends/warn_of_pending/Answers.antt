use Rattle.std.proofs.Common.{string_bytes}
use Rattle.lab_warnings.proofs.LineLaws.{no_pending, one_pending}
use Rattle.lab_warnings.proofs.ends.warn_of_pending.Goals as goal

pub loop-line-init : goal.loop-line-init
loop-line-init c = no_pending c.args.name.now c.args.kernel.now.history.state c.args.stage (string_bytes c.args.told.now)

pub loop-line-preserved : goal.loop-line-preserved
loop-line-preserved c =
    one_pending c.args.name.now c.args.kernel.now.history.state c.args.stage c.loop-line.line (string_bytes c.args.told.now) (string_bytes c.loop-line.told)
    (string_bytes c.warn_of_line.new.told) c.loop-line.invariant c.in_ok-warn_of_line.ensures
