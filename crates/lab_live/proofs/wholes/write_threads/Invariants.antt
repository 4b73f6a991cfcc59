use Rattle.std.proofs.Common.{◌≡◌, ◌++◌, flat_map, string_bytes}
use Rattle.lab_live.specs.States.{numbers_below}
use Rattle.lab_live.specs.Wholes.{whole_thread}
use Rattle.lab_live.proofs.wholes.write_threads.Given as goal

abbrev pub invariant-loop-thread : goal.invariant-loop-thread
invariant-loop-thread g l = string_bytes l.told ≡ string_bytes l.initial.told ++ flat_map (whole_thread l.kernel.history) (numbers_below l.thread)
