use Rattle.std.proofs.Common.{◌≡◌, None, replicate, vec_capacity}
use Rattle.evl_clock.specs.Limits.{timer_count}
use Rattle.evl_clock.proofs.clock.no_timers.Given as goal

abbrev pub invariant-loop : goal.invariant-loop
invariant-loop g l = record { room : vec_capacity l.timers ≡ timer_count; empty : l.timers.items ≡ replicate l.counter None }
