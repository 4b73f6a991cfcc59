use Rattle.std.proofs.Common.{◌≡◌, ◌++◌, None, drop, replicate}
use Rattle.evl_sched.proofs.contenders.Contenders.clear.Given as goal

abbrev pub invariant-loop-thread : goal.invariant-loop-thread
invariant-loop-thread g l = l.self ≡ replicate l.thread None ++ drop l.thread l.fn.self
