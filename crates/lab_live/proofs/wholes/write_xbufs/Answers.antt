use Rattle.std.proofs.Common.{string_bytes}
use Rattle.lab_live.specs.Wholes.{xbuf_line}
use Rattle.lab_live.proofs.StateLaws.{lines_more, lines_none}
use Rattle.lab_live.proofs.wholes.write_xbufs.Goals as goal

pub loop-xbuf-init : goal.loop-xbuf-init
loop-xbuf-init g c = let h = c.args.kernel.now.history in lines_none (xbuf_line h.state) (string_bytes c.args.told.now)

pub loop-xbuf-preserved : goal.loop-xbuf-preserved
loop-xbuf-preserved g c =
    let h = c.args.kernel.now.history in
    lines_more (xbuf_line h.state) c.loop-xbuf.xbuf (string_bytes c.args.told.now) (string_bytes c.loop-xbuf.told) (string_bytes c.write_xbuf.new.told) c.loop-xbuf.invariant
    c.in_ok-write_xbuf.ensures
