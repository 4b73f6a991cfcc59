use Rattle.std.proofs.Common.{◌≡◌}
use Rattle.test_hosts.proofs.playing.Playing.makes_calls.Given as goal

abbrev pub invariant-loop-place : goal.invariant-loop-place
invariant-loop-place g l = l.self ≡ l.fn.self
