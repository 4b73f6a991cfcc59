use Rattle.std.proofs.Common.{◌≡◌, ◌++◌, flat_map, string_bytes}
use Rattle.lab_live.specs.States.{numbers_below}
use Rattle.lab_live.specs.Wholes.{sem_line}
use Rattle.lab_live.proofs.wholes.write_sems.Given as goal

abbrev pub invariant-loop-sem : goal.invariant-loop-sem
invariant-loop-sem g l = string_bytes l.told ≡ string_bytes l.initial.told ++ flat_map (sem_line l.kernel.history.state) (numbers_below l.sem)
