use Rattle.std.proofs.Common.{◌≡◌, ◌≤◌, ◌++◌, length, drop}
use Rattle.evl_pipeline.specs.Plans.{actions_at}
use Rattle.evl_plans.proofs.planned.actions_at.Given as goal

abbrev pub invariant-loop-every : goal.invariant-loop-every
invariant-loop-every l =
    (length l.actions.items ≤ l.every-index)
    × (l.actions.items ++ actions_at (drop l.every-index l.rows) l.count ≡ actions_at l.rows l.count)
