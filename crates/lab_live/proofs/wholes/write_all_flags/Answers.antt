use Rattle.std.proofs.Common.{string_bytes}
use Rattle.lab_live.specs.Wholes.{flags_line}
use Rattle.lab_live.proofs.StateLaws.{lines_more, lines_none}
use Rattle.lab_live.proofs.wholes.write_all_flags.Goals as goal

pub loop-flags-init : goal.loop-flags-init
loop-flags-init g c = let h = c.args.kernel.now.history in lines_none (flags_line h.state) (string_bytes c.args.told.now)

pub loop-flags-preserved : goal.loop-flags-preserved
loop-flags-preserved g c =
    let h = c.args.kernel.now.history in
    lines_more (flags_line h.state) c.loop-flags.flags (string_bytes c.args.told.now) (string_bytes c.loop-flags.told) (string_bytes c.write_flags.new.told) c.loop-flags.invariant
    c.in_ok-write_flags.ensures
