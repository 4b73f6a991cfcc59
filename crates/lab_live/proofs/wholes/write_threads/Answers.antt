use Rattle.std.proofs.Common.{string_bytes}
use Rattle.lab_live.specs.Wholes.{whole_thread}
use Rattle.lab_live.proofs.StateLaws.{lines_more, lines_none}
use Rattle.lab_live.proofs.wholes.write_threads.Goals as goal

pub loop-thread-init : goal.loop-thread-init
loop-thread-init g c = let h = c.args.kernel.now.history in lines_none (whole_thread h) (string_bytes c.args.told.now)

pub loop-thread-preserved : goal.loop-thread-preserved
loop-thread-preserved g c =
    let h = c.args.kernel.now.history in
    lines_more (whole_thread h) c.loop-thread.thread (string_bytes c.args.told.now) (string_bytes c.loop-thread.told) (string_bytes c.write_whole_thread.new.told) c.loop-thread.invariant
    c.in_ok-write_whole_thread.ensures
