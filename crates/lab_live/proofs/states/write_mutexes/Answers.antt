use Rattle.std.proofs.Common.{string_bytes}
use Rattle.lab_live.specs.States.{mutex_line}
use Rattle.lab_live.proofs.StateLaws.{lines_more, lines_none}
use Rattle.lab_live.proofs.states.write_mutexes.Goals as goal

pub loop-mutex-init : goal.loop-mutex-init
loop-mutex-init g c = let h = c.args.kernel.now.history in lines_none (mutex_line h.state) (string_bytes c.args.told.now)

pub loop-mutex-preserved : goal.loop-mutex-preserved
loop-mutex-preserved g c =
    let h = c.args.kernel.now.history in
    lines_more (mutex_line h.state) c.loop-mutex.mutex (string_bytes c.args.told.now) (string_bytes c.loop-mutex.told) (string_bytes c.write_mutex.new.told) c.loop-mutex.invariant
    c.in_ok-write_mutex.ensures
