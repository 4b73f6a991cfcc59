use Rattle.std.proofs.Common.{◌≡◌, ◌-◌}
use Rattle.evl_base.specs.Limits.{thread_limit}
use Rattle.evl_mutex.specs.Chains.{reaches}
use Rattle.lab_moments.specs.Standings.{next_owner}
use Rattle.lab_moments.proofs.lenders.reaches.Given as goal

abbrev pub invariant-loop-step : goal.invariant-loop-step
invariant-loop-step g l =
    reaches (thread_limit - l._step) (next_owner l.kernel.history.state) l.at l.to ≡ reaches thread_limit (next_owner l.kernel.history.state) l.fn.from l.to
