use Rattle.std.proofs.Common.{◌≡◌, ◌++◌, flat_map, string_bytes}
use Rattle.lab_live.specs.States.{numbers_below, thread_line}
use Rattle.lab_live.proofs.states.write_threads.Given as goal

abbrev pub invariant-loop-thread : goal.invariant-loop-thread
invariant-loop-thread g l = string_bytes l.told ≡ string_bytes l.initial.told ++ flat_map (thread_line l.kernel.history) (numbers_below l.thread)
