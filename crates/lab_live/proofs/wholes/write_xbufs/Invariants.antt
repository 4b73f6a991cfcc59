use Rattle.std.proofs.Common.{◌≡◌, ◌++◌, flat_map, string_bytes}
use Rattle.lab_live.specs.States.{numbers_below}
use Rattle.lab_live.specs.Wholes.{xbuf_line}
use Rattle.lab_live.proofs.wholes.write_xbufs.Given as goal

abbrev pub invariant-loop-xbuf : goal.invariant-loop-xbuf
invariant-loop-xbuf g l = string_bytes l.told ≡ string_bytes l.initial.told ++ flat_map (xbuf_line l.kernel.history.state) (numbers_below l.xbuf)
