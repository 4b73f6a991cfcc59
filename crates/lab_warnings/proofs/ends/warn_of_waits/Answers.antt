use Rattle.std.proofs.Common.{string_bytes}
use Rattle.lab_warnings.proofs.LineLaws.{no_waits, one_wait}
use Rattle.lab_warnings.proofs.ends.warn_of_waits.Goals as goal

pub loop-thread-init : goal.loop-thread-init
loop-thread-init c = no_waits c.args.name.now c.args.kernel.now.history.entries c.args.kernel.now.history.state (string_bytes c.args.told.now)

pub loop-thread-preserved : goal.loop-thread-preserved
loop-thread-preserved c =
    let h = c.args.kernel.now.history in
    one_wait c.args.name.now h.entries h.state c.loop-thread.thread (string_bytes c.args.told.now) (string_bytes c.loop-thread.told) (string_bytes c.warn_of_wait.new.told)
    c.loop-thread.invariant c.in_ok-warn_of_wait.ensures
