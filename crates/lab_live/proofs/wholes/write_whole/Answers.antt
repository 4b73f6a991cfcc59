use Rattle.std.proofs.Common.{string_bytes}
use Rattle.lab_live.proofs.StateLaws.{behind_five, whole_told}
use Rattle.lab_live.proofs.wholes.write_whole.Goals as goal

pub returns : goal.returns
returns c =
    let before = string_bytes c.args.told.now in
    whole_told c.args.session.now _ _ _ _ _ before _ c.kernel-kernel.ensures c.threads.ensures c.sems.ensures.count c.flags.ensures.count c.xbufs.ensures.count
    (behind_five before _ _ _ _ _ _ _ _ _ _ _ _ c.in_ok-write_date.ensures c.in_ok-write_threads.ensures c.in_ok-write_sems.ensures c.in_ok-write_all_flags.ensures
    c.in_ok-write_xbufs.ensures c.in_ok-write_rest.ensures)
