use Rattle.std.proofs.Common.{◌≡◌, ◌++◌, flat_map, string_bytes}
use Rattle.lab_live.specs.States.{numbers_below, timer_line}
use Rattle.lab_live.proofs.states.write_timers.Given as goal

abbrev pub invariant-loop-timer : goal.invariant-loop-timer
invariant-loop-timer g l = string_bytes l.told ≡ string_bytes l.initial.told ++ flat_map (timer_line l.kernel.history.state) (numbers_below l.timer)
