use Rattle.std.proofs.Common.{string_bytes}
use Rattle.lab_live.proofs.StateLaws.{behind_three, rest_told}
use Rattle.lab_live.proofs.states.write_rest.Goals as goal

pub returns : goal.returns
returns c =
    let before = string_bytes c.args.told.now in
    rest_told c.args.session.now _ _ before _ c.kernel-kernel.ensures c.mutexes.ensures.count
    (behind_three before _ _ _ _ _ _ _ _ c.in_ok-write_mutexes.ensures c.in_ok-write_stage.ensures c.in_ok-write_stage-2.ensures c.in_ok-write_timers.ensures)
