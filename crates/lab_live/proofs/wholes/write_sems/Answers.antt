use Rattle.std.proofs.Common.{string_bytes}
use Rattle.lab_live.specs.Wholes.{sem_line}
use Rattle.lab_live.proofs.StateLaws.{lines_more, lines_none}
use Rattle.lab_live.proofs.wholes.write_sems.Goals as goal

pub loop-sem-init : goal.loop-sem-init
loop-sem-init g c = let h = c.args.kernel.now.history in lines_none (sem_line h.state) (string_bytes c.args.told.now)

pub loop-sem-preserved : goal.loop-sem-preserved
loop-sem-preserved g c =
    let h = c.args.kernel.now.history in
    lines_more (sem_line h.state) c.loop-sem.sem (string_bytes c.args.told.now) (string_bytes c.loop-sem.told) (string_bytes c.write_sem.new.told) c.loop-sem.invariant
    c.in_ok-write_sem.ensures
