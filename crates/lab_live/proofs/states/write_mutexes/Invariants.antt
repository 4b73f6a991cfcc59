use Rattle.std.proofs.Common.{◌≡◌, ◌++◌, flat_map, string_bytes}
use Rattle.lab_live.specs.States.{numbers_below, mutex_line}
use Rattle.lab_live.proofs.states.write_mutexes.Given as goal

abbrev pub invariant-loop-mutex : goal.invariant-loop-mutex
invariant-loop-mutex g l = string_bytes l.told ≡ string_bytes l.initial.told ++ flat_map (mutex_line l.kernel.history.state) (numbers_below l.mutex)
