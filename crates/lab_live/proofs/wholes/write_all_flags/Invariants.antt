use Rattle.std.proofs.Common.{◌≡◌, ◌++◌, flat_map, string_bytes}
use Rattle.lab_live.specs.States.{numbers_below}
use Rattle.lab_live.specs.Wholes.{flags_line}
use Rattle.lab_live.proofs.wholes.write_all_flags.Given as goal

abbrev pub invariant-loop-flags : goal.invariant-loop-flags
invariant-loop-flags g l = string_bytes l.told ≡ string_bytes l.initial.told ++ flat_map (flags_line l.kernel.history.state) (numbers_below l.flags)
